use Prim.Native.Nat.{◌+◌, ◌-◌}
use mathlib.Core.Path.{◌≡◌}
use Rattle.rate.specs.Circle.{around, spent_from}
use Rattle.rate.proofs.Pace.spend.Given as goal

abbrev pub invariant-loop : goal.invariant-loop
invariant-loop l = record {
  place : around l.slots l.next ≡ l.next;
  next : around l.slots (l.next + (l.more - l.counter)) ≡ around l.slots (l.initial.next + l.more);
  log : spent_from l.slots l.log l.next l.clock (l.more - l.counter) ≡ spent_from l.slots l.initial.log l.initial.next l.clock l.more;
}
