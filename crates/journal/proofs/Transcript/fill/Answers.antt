use mathlib.Core.Path.{◌≡◌, ◌∙◌, sym}
use mathlib.Core.List.{◌++◌}
use mathlib.Core.Bool.{true}
use native.Mathlib.Omega.{arith}
use lib.ListN.{length, drop, length-append, length-drop}
use borrow.Author.Rules.{rules}
use Rattle.journal_spec.specs.Contents.{longest_packet}
use Rattle.journal.specs.Ready.{transcript_ready}
use Rattle.journal.proofs.Fronts.{fill_front}
use Rattle.journal.proofs.Ready.{is_ready}
use Rattle.journal.proofs.Transcript.fill.Goals as goal

pub returns-in-Some : goal.returns-in-Some
returns-in-Some c =
    let a = c.args in
    let front = c.in-Some.ensures.cases in
    let t = c.fill in
    let ok : transcript_ready a.self ≡ true = is_ready a.self (length a.packet.now) (sym c.is_ready.ensures ∙ c.if-not-is_ready.false) in
    let whole : length (t.new.packet ++ drop longest_packet a.packet.now) ≡ length a.packet.now = search rules in
    let same : length t.new.packet ≡ longest_packet =
    omega (arith, whole, length-append t.new.packet (drop longest_packet a.packet.now), length-drop longest_packet a.packet.now, front.enough) in
    fill_front a.self a.packet.now ok front.enough c.in-Some.front.now front.same t.result.transcript t.new.packet same a.input.now a.space.now t.new.space t.result.used t.result.count t.ensures
