use lib.ListN.{length}
use borrow.Author.Rules.{rules}
use Rattle.journal_spec.specs.Contents.{longest_packet}
use Prim.Native.Nat.{◌≤◌}
use mathlib.Core.Path.{◌∙◌, sym}
use Rattle.standing.proofs.HowFar.{stop_on, stop_off}
use Rattle.journal.proofs.Ready.{hungry_is}
use Rattle.journal.proofs.settling.stop.Goals as goal

pub returns-then-is_hungry : goal.returns-then-is_hungry
returns-then-is_hungry c =
    let s = c.args.s in
    let p = c.args.packet.now in
    let big : longest_packet ≤ length c.args.packet.now = search rules in
    let b = c.break_off in
    let h = sym (hungry_is s p c.requires big) ∙ sym c.is_hungry.ensures ∙ c.if-is_hungry.true in
    record { still = b.ensures.0; stands = b.ensures.1 ∙ stop_on _ h }

pub returns-else-is_hungry : goal.returns-else-is_hungry
returns-else-is_hungry c =
    let s = c.args.s in
    let p = c.args.packet.now in
    let big : longest_packet ≤ length c.args.packet.now = search rules in
    record { still = c.requires; stands = stop_off _ (sym (hungry_is s p c.requires big) ∙ sym c.is_hungry.ensures ∙ c.if-is_hungry.false) }
