use Prim.Native.Nat.{◌≤◌}
use Rattle.packet_spec.specs.Limits.{level}
use Rattle.writer.specs.Internal.Parts.{text_at, waiting_at}
use Rattle.writer.proofs.Turns.{Turn}
use Rattle.writer.proofs.writing.put_texts.Given as goal

abbrev pub invariant-loop-i : goal.invariant-loop-i
invariant-loop-i l = (l.i ≤ level) × Turn (text_at l.texts l.room l.carried.tags) (waiting_at l.texts l.room l.len) l.carried.count l.initial.to l.to l.i l.at
