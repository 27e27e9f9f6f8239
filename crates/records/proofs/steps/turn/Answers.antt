use lib.ListN.{length}
use borrow.Author.Rules.{rules}
use Rattle.journal_spec.specs.Contents.{longest_packet}
use Prim.Native.Nat.{◌≤◌}
use mathlib.Core.Path.{refl}
use Rattle.records.proofs.Turns.{turn_time}
use Rattle.records.proofs.SingleBytes.{turn_byte, single}
use Rattle.records.proofs.steps.turn.Goals as goal

pub returns-in-Time : goal.returns-in-Time
returns-in-Time c =
    let a = c.args in
    let big : longest_packet ≤ length a.packet.now = search rules in
    let t = c.time in
    turn_time a.r a.packet.now a.input.now c.in-Time.n c.in-Time.is c.requires.0 c.requires.1 t.result.reader t.result.used t.ensures.0 t.ensures.1

pub returns-in_default : goal.returns-in_default
returns-in_default c =
    let a = c.args in
    let big : longest_packet ≤ length a.packet.now = search rules in
    turn_byte a.r a.packet.now a.input.now c.requires.0 c.requires.1 big a.r.part refl (single a.r.part c.in_default.not-Kind c.in_default.not-Piece c.in_default.not-Time) _ _ c.byte.ensures.0 c.byte.ensures.1
