use mathlib.Core.Path.{◌≡◌, ◌∙◌, ap, sym, subst}
use lib.ListN.{length}
use borrow.Author.Rules.{rules}
use Rattle.std.specs.Prelude.{Some, None, Ok, Err}
use Rattle.writer.specs.declared.Draft.{Draft}
use Rattle.writer.specs.Draft.{answer_by, put_of}
use Rattle.sender.specs.declared.Sender.{Sender}
use Rattle.sender.specs.Clocking.{pace_behind, record_behind, Clocks}
use Rattle.sender.proofs.ClockAnswered.{is_sent, where_sent, where_not, sent_behind, rest_stays, put_is}
use Rattle.sender.proofs.clocking.put.Goals as goal
use Rattle.sender.proofs.clocking.put.Goals.{in-Ok-Some, in_default, in_default-2}

pub returns-then-matches : goal.returns-then-matches
returns-then-matches c known =
    let a = c.args in
    let put = c.put_packet-size in
    let n = c.taken-len.result in
    let k = c.allowed-going.result in
    let spend = c.spend-sending in
    let r = answer_by put.result (length a.packet.now) in
    let space : length put.new.packet ≡ length a.packet.now = search rules in
    let sent : c.match-matches.matches ≡ is_sent r =
    elim c.match-matches.branch [
      | in-Ok-Some w ↦ let answer : r ≡ Ok (Some w.in-Ok-Some.field-0-0) = cc in w.matches-is ∙ ap is_sent (sym answer)
      | in_default w ↦ let answer : r ≡ Ok None = cc in w.matches-is ∙ ap is_sent (sym answer)
      | in_default-2 w ↦ let answer : r ≡ Err w.in_default.field-0 = cc in w.matches-is ∙ ap is_sent (sym answer)
    ] in
    let behind = sent_behind a.sender a.texts.now a.log.now a.clock n k r (sym sent ∙ c.if-matches.true) in
    subst (λ (s : Sender). Clocks a.sender a.texts.now a.log.now a.clock a.packet.now r s c.keep_rest.new.texts spend.new.log put.new.packet) (ap (record_behind r a.sender a.clock n k) (sym spend.ensures.0))
    (put_is a.sender a.texts.now a.log.now a.clock a.packet.now put.ensures.1 known c.min-characters.result k n c.marker-marker.result
    c.min-characters.ensures c.allowed-going.ensures c.taken-len.ensures c.marker-marker.ensures
    r c.keep_rest.new.texts spend.new.log put.new.packet (where_sent r spend.ensures.2)
    (put.ensures.0 ∙ ap (λ (d : Draft). put_of d a.texts.now a.packet.now) c.draft-draft.ensures)
    (c.keep_rest.ensures ∙ sym behind.0)
    (spend.ensures.1 ∙ sym behind.1))

pub returns-else-matches : goal.returns-else-matches
returns-else-matches c known =
    let a = c.args in
    let put = c.put_packet-size in
    let n = c.taken-len.result in
    let k = c.allowed-going.result in
    let r = answer_by put.result (length a.packet.now) in
    let space : length put.new.packet ≡ length a.packet.now = search rules in
    let sent : c.match-matches.matches ≡ is_sent r =
    elim c.match-matches.branch [
      | in-Ok-Some w ↦ let answer : r ≡ Ok (Some w.in-Ok-Some.field-0-0) = cc in w.matches-is ∙ ap is_sent (sym answer)
      | in_default w ↦ let answer : r ≡ Ok None = cc in w.matches-is ∙ ap is_sent (sym answer)
      | in_default-2 w ↦ let answer : r ≡ Err w.in_default.field-0 = cc in w.matches-is ∙ ap is_sent (sym answer)
    ] in
    let not_sent = sym sent ∙ c.if-matches.false in
    let stays = rest_stays a.sender a.texts.now a.log.now a.clock n k r not_sent (pace_behind a.sender k) a.sender.pace in
    subst (λ (s : Sender). Clocks a.sender a.texts.now a.log.now a.clock a.packet.now r s a.texts.now a.log.now put.new.packet) stays.2
    (put_is a.sender a.texts.now a.log.now a.clock a.packet.now put.ensures.1 known c.min-characters.result k n c.marker-marker.result
    c.min-characters.ensures c.allowed-going.ensures c.taken-len.ensures c.marker-marker.ensures
    r a.texts.now a.log.now put.new.packet (where_not _ r not_sent)
    (put.ensures.0 ∙ ap (λ (d : Draft). put_of d a.texts.now a.packet.now) c.draft-draft.ensures)
    (sym stays.0)
    (sym stays.1))
