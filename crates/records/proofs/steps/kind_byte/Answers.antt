use Prim.Native.Nat.{◌≤◌}
use lib.ListN.{length}
use borrow.Author.Rules.{rules}
use Rattle.journal_spec.specs.Contents.{longest_packet}
use Rattle.records.proofs.SingleBytes.{turn_kind_byte}
use Rattle.records.proofs.steps.kind_byte.Goals as goal

pub returns : goal.returns
returns c =
    let a = c.args in
    let big : longest_packet ≤ length a.packet.now = search rules in
    turn_kind_byte a.r a.packet.now a.input.now c.requires.1 c.requires.2 big c.requires.0 _ c.kind.ensures
