use mathlib.Core.Path.{◌≡◌}
use native.Mathlib.Omega.{arith}
use lib.Dec.{leb}
use lib.ListN.{length, drop, length-append, length-drop}
use mathlib.Core.List.{◌++◌}
use borrow.Author.Rules.{rules}
use Rattle.journal_spec.specs.Contents.{longest_packet}
use mathlib.Core.Path.{◌∙◌, sym}
use Rattle.base.proofs.Tests.{and_right}
use Rattle.records.proofs.TurnsInOrder.{read_front, too_short}
use Rattle.records.proofs.read.Goals as goal

pub returns-in-Some : goal.returns-in-Some
returns-in-Some c =
    let a = c.args in
    let front = c.in-Some.ensures.cases in
    let t = c.run in
    let whole : length (t.new.packet ++ drop longest_packet a.packet.now) ≡ length a.packet.now = search rules in
    let same : length t.new.packet ≡ longest_packet =
    omega (arith, whole, length-append t.new.packet (drop longest_packet a.packet.now), length-drop longest_packet a.packet.now, front.enough) in
    read_front a.reader a.packet.now a.input.now front.enough (and_right (leb longest_packet (length a.packet.now)) _ (sym c.is_ready.ensures ∙ c.if-not-is_ready.false)) c.in-Some.front.now front.same
    t.result.reader t.new.packet same t.result.used t.ensures

pub returns-in-None : goal.returns-in-None
returns-in-None c = too_short c.args.reader c.args.packet.now c.args.input.now c.in-None.ensures.cases
