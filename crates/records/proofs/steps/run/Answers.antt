use Prim.Native.Nat.{◌≤◌}
use mathlib.Core.Path.{◌∙◌, sym}
use lib.ListN.{length}
use Rattle.journal_spec.specs.Contents.{longest_packet}
use Rattle.records.proofs.TurnsInOrder.{at_stop}
use borrow.Author.Rules.{rules}
use Rattle.records.proofs.steps.run.Goals as goal

pub returns-then-not-is_going : goal.returns-then-not-is_going
returns-then-not-is_going c =
    let a = c.args in
    let t = c.start-started in
    let big : longest_packet ≤ length t.new.packet = search rules in
    at_stop a.r a.packet.now a.input.now t.result.reader t.new.packet t.result.used t.ensures big
    (sym c.is_going.ensures ∙ c.if-not-is_going.true)
