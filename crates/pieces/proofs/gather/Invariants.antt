use Prim.Native.Nat.{◌*◌, ◌/◌, ◌≤◌}
use mathlib.Core.Path.{◌≡◌}
use lib.ListN.{length, drop}
use Rattle.pieces.proofs.Pieces.{Gathered}
use Rattle.pieces.proofs.gather.Given as goal

abbrev pub invariant-loop-record : goal.invariant-loop-record
invariant-loop-record l = record {
  gathered : Gathered (length l.initial.space / 16) l.input l.initial.space l.count l.space;
  same : length l.space ≡ length l.initial.space;
  rest : l.rest ≡ drop (17 * l.count) l.input;
  end : l.end ≡ 16 * l.count;
  within : l.end ≤ length l.space;
  read : 17 * l.count ≤ length l.input;
}

abbrev pub decreases-loop-record : goal.decreases-loop-record
decreases-loop-record l = length l.rest
