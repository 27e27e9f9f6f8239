use Prim.Native.Nat.{◌-◌}
use mathlib.Core.Path.{◌≡◌}
use lib.ListN.{length}
use Rattle.records.specs.Internal.Turns.{Went}
use Rattle.records.proofs.steps.turns.Given as goal

abbrev pub invariant-loop-used : goal.invariant-loop-used
invariant-loop-used l =
    Went l.initial.reader l.initial.packet l.input l.reader l.packet l.used × (length l.packet ≡ length l.initial.packet)

abbrev pub decreases-loop-used : goal.decreases-loop-used
decreases-loop-used l = length l.input - l.used
