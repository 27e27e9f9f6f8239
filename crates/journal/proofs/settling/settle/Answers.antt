use lib.ListN.{length}
use borrow.Author.Rules.{rules}
use Rattle.journal_spec.specs.Contents.{longest_packet}
use Prim.Native.Nat.{◌≤◌}
use mathlib.Core.Path.{◌∙◌, sym}
use Rattle.journal.proofs.ActedUpon.{at_the_limit, still_going, acted_upon}
use Rattle.journal.proofs.settling.settle.Goals as goal

pub returns-then-s-eq0 : goal.returns-then-s-eq0
returns-then-s-eq0 c =
    let b = c.break_off in
    (b.ensures.0, b.ensures.1 ∙ at_the_limit c.args.s c.args.packet.now c.requires.0 (sym c.is_going.ensures ∙ c.if-is_going.true) c.if-s-eq0.true)

pub returns-else-s-eq0 : goal.returns-else-s-eq0
returns-else-s-eq0 c =
    still_going c.args.s c.args.packet.now c.requires.0 (sym c.is_going.ensures ∙ c.if-is_going.true) c.if-s-eq0.false

pub returns : goal.returns
returns c =
    let a = c.act-acted in
    let big : longest_packet ≤ length c.args.packet.now = search rules in
    acted_upon c.args.s c.args.packet.now c.requires.0 big c.requires.1 a.result _ (sym c.is_going.ensures ∙ c.if-is_going.false) a.ensures _
    c.past.ensures
