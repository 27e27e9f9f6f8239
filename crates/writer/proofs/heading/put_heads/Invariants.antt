use Prim.Native.Nat.{◌-◌, ◌≤◌}
use lib.ListN.{length}
use mathlib.Core.List.{[], ◌∷◌}
use Rattle.packet_spec.specs.Limits.{level}
use Rattle.writer.specs.Internal.Headers.{header_at}
use Rattle.writer.proofs.Turns.{Turn}
use Rattle.writer.proofs.heading.put_heads.Given as goal

abbrev pub invariant-loop-tag : goal.invariant-loop-tag
invariant-loop-tag l = (length l.yielded ≤ level) × Turn (header_at l.t140 l.fn.carried.tags) (l.t140 ∷ []) l.fn.carried.count l.initial.to l.to (level - length l.yielded) l.at
