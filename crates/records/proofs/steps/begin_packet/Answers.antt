use Prim.Native.Nat.{◌≤◌}
use mathlib.Core.Path.{◌≡◌, ◌∙◌, sym}
use borrow.Author.Tests.{ltb-true, ltb-false}
use lib.ListN.{length}
use Rattle.journal_spec.specs.Contents.{longest_packet}
use Rattle.records.proofs.WholePieces.{turn_long, turn_packet}
use borrow.Author.Rules.{rules}
use Rattle.records.proofs.steps.begin_packet.Goals as goal

pub returns-then-is_too_long : goal.returns-then-is_too_long
returns-then-is_too_long c =
    let a = c.args in
    let big : longest_packet ≤ length a.packet.now = search rules in
    let n = c.length-size in
    turn_long a.r a.packet.now a.input.now c.requires.0 c.requires.1 c.requires.2 big c.requires.3 c.requires.4 c.requires.5 n.result n.ensures.0 (ltb-true longest_packet n.result (sym c.is_too_long.ensures ∙ c.if-is_too_long.true)) _ c.with.ensures

pub returns : goal.returns
returns c =
    let a = c.args in
    let big : longest_packet ≤ length a.packet.now = search rules in
    let n = c.length-size in
    let g = c.gather-g in
    let q = g.new.packet in
    let same : length q ≡ length a.packet.now = search rules in
    turn_packet a.r a.packet.now a.input.now c.requires.0 c.requires.1 c.requires.2 big c.requires.3 c.requires.4 c.requires.5 n.result n.ensures.0 (ltb-false longest_packet n.result (sym c.is_too_long.ensures ∙ c.if-is_too_long.false)) g.result.part g.result.at q g.result.used g.ensures same
