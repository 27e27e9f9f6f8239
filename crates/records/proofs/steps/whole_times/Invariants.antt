use Prim.Native.Nat.{◌-◌, ◌≤◌}
use mathlib.Core.Path.{◌≡◌}
use lib.ListN.{length, drop}
use Rattle.records.specs.Internal.Turns.{Passes}
use Rattle.records.proofs.steps.whole_times.Given as goal

abbrev pub invariant-loop-record : goal.invariant-loop-record
invariant-loop-record l = record {
  passed : Passes l.input (length l.input - length l.rest);
  rest : l.rest ≡ drop (length l.input - length l.rest) l.input;
  within : length l.rest ≤ length l.input;
}

abbrev pub decreases-loop-record : goal.decreases-loop-record
decreases-loop-record l = length l.rest
