use Rattle.journal_spec.specs.Contents.{longest_packet}
use Prim.Native.Nat.{◌≤◌}
use mathlib.Core.Path.{◌≡◌}
use lib.ListN.{length}
use Rattle.records.proofs.WholePieces.{turn_pieces}
use borrow.Author.Rules.{rules}
use Rattle.records.proofs.steps.more_pieces.Goals as goal

pub returns-else-g-eq0 : goal.returns-else-g-eq0
returns-else-g-eq0 c =
    let a = c.args in
    let big : longest_packet ≤ length a.packet.now = search rules in
    let g = c.gather-g in
    let q = g.new.packet in
    let same : length q ≡ length a.packet.now = search rules in
    turn_pieces a.r a.packet.now a.input.now c.requires.0 c.requires.1 big c.requires.3 g.result.part g.result.at q g.result.used g.ensures same c.if-g-eq0.false _ c.with.ensures
