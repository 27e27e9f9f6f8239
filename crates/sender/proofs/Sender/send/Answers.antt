use mathlib.Core.Path.{◌≡◌, ◌∙◌, ap, sym, subst}
use lib.ListN.{length}
use borrow.Author.Rules.{rules}
use Rattle.std.specs.Prelude.{Some, None, Ok, Err}
use Rattle.writer.specs.Draft.{Answered, answer_by}
use Rattle.sender.specs.declared.Sender.{Sender}
use Rattle.sender.specs.Clocking.{record_behind, Clocks}
use Rattle.sender.proofs.Sender.send.Goals as goal

pub returns-in-Ok-Some : goal.returns-in-Ok-Some
returns-in-Ok-Some c known =
    let a = c.args in
    let x = c.put-sending in
    let n = x.result.size in
    let space : length x.new.packet ≡ length a.packet.now = search rules in
    let answer : answer_by n (length a.packet.now) ≡ Ok (Some c.in-Ok-Some.field-0-0) = cc in
    subst (λ (s : Sender). Clocks a.self.now a.texts.now a.log.now a.clock a.packet.now (answer_by n (length a.packet.now)) s x.new.texts x.new.log x.new.packet)
    (ap (λ (r : Answered). record_behind r a.self.now a.clock x.result.len x.result.characters x.result.pace) answer ∙ sym c.after.ensures)
    (x.ensures known)

pub returns-in-Ok-None : goal.returns-in-Ok-None
returns-in-Ok-None c known =
    let a = c.args in
    let x = c.put-sending in
    let n = x.result.size in
    let space : length x.new.packet ≡ length a.packet.now = search rules in
    let answer : answer_by n (length a.packet.now) ≡ Ok None = cc in
    subst (λ (s : Sender). Clocks a.self.now a.texts.now a.log.now a.clock a.packet.now (answer_by n (length a.packet.now)) s x.new.texts x.new.log x.new.packet)
    (ap (λ (r : Answered). record_behind r a.self.now a.clock x.result.len x.result.characters x.result.pace) answer ∙ sym c.at.ensures)
    (x.ensures known)

pub returns-in-Err : goal.returns-in-Err
returns-in-Err c known =
    let a = c.args in
    let x = c.put-sending in
    let n = x.result.size in
    let space : length x.new.packet ≡ length a.packet.now = search rules in
    let answer : answer_by n (length a.packet.now) ≡ Err c.in-Err.field-0 = cc in
    subst (λ (s : Sender). Clocks a.self.now a.texts.now a.log.now a.clock a.packet.now (answer_by n (length a.packet.now)) s x.new.texts x.new.log x.new.packet)
    (ap (λ (r : Answered). record_behind r a.self.now a.clock x.result.len x.result.characters x.result.pace) answer)
    (x.ensures known)
