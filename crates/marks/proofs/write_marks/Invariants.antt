use Prim.Native.Nat.{◌*◌, ◌≤◌}
use mathlib.Core.Path.{◌≡◌}
use lib.ListN.{length}
use lib.Seq.{sets}
use Rattle.receiver_spec.specs.Marks.{marks}
use Rattle.marks.proofs.write_marks.Given as goal

abbrev pub invariant-loop-k : goal.invariant-loop-k
invariant-loop-k l = (3 * l.written ≤ length l.space) × (l.space ≡ sets l.initial.space 0 (marks l.k))
