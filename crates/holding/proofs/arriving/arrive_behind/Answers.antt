use Rattle.std.proofs.Common.{◌≡◌, Bool, true, false, not, refl, ap, sym, subst, ◌∙◌}
use Rattle.packet.specs.Refusal.{number}
use Rattle.receiver_spec.specs.Answers.{refuses}
use Rattle.receiver_spec.specs.State.{Receiver, keeping_none}
use Rattle.receiver.specs.Internal.Read.{read_given}
use Rattle.receiver.specs.View.{receiver_of, step_made}
use Rattle.holding.specs.View.{holding_of, holding_answer, call_made}
use Rattle.holding.proofs.Readings.{accept_never, give_never}
use Rattle.holding.proofs.Arrivals.{first_behind, break_behind, farther_behind, stays_behind}
use Rattle.holding.proofs.arriving.arrive_behind.Goals as goal

sourced : {b : Bool} → not b ≡ false → b ≡ true
sourced {b = true} e = refl
sourced {b = false} e = sym e

unsourced : {b : Bool} → not b ≡ true → b ≡ false
unsourced {b = true} e = sym e
unsourced {b = false} e = refl

pub returns-in_err-step : goal.returns-in_err-step
returns-in_err-step c s lent content lread read = absurd (accept_never _ _ content _ read _ c.in_err-step.ensures)

pub returns-in_err-given : goal.returns-in_err-given
returns-in_err-given c s lent content lread read = absurd (give_never _ _ lent _ lread _ c.in_err-given.ensures)

pub returns-in_err-given-2 : goal.returns-in_err-given-2
returns-in_err-given-2 c s lent content lread read =
    let a = c.args in
    let r = keeping_none (receiver_of a.receiver) in
    let e = subst (λ (x : Receiver). record { receiver = x; answer = refuses (number c.in_err-given-2.field-0.0) } ≡ read_given x a.lent.bytes.now a.lent.packet) c.cleared.ensures c.in_err-given-2.ensures in
    absurd (give_never r a.lent.bytes.now lent a.lent.packet (record { read = lread.read; places = lread.places }) _ e)

pub returns-then-not-receiver : goal.returns-then-not-receiver
returns-then-not-receiver c s =
    let a = c.args in
    first_behind (receiver_of a.receiver) a.clock a.new.bytes.now a.new.packet (step_made c.in_ok-step.step) c.in_ok-step.ensures (holding_of c.stay.result.receiver) a.arrival a.lent.bytes.now a.lent.packet
    (call_made c.stay.result) c.stay.ensures (unsourced c.if-not-receiver.true)

pub returns-in_ok-given : goal.returns-in_ok-given
returns-in_ok-given c s =
    let a = c.args in
    break_behind (receiver_of a.receiver) a.clock a.new.bytes.now a.new.packet (step_made c.in_ok-step.step) c.in_ok-step.ensures _ a.arrival a.lent.bytes.now a.lent.packet
    (step_made c.in_ok-given.given) (holding_answer c.tell.result) (sourced c.if-not-receiver.false) c.if-sequence-number.false
    (sym c.is_break.ensures ∙ c.if-is_break.true) c.in_ok-given.ensures refl c.tell.ensures

pub returns-in_ok-given-2 : goal.returns-in_ok-given-2
returns-in_ok-given-2 c s =
    let a = c.args in
    farther_behind (receiver_of a.receiver) a.clock a.new.bytes.now a.new.packet (step_made c.in_ok-step.step) c.in_ok-step.ensures _ a.arrival a.lent.bytes.now a.lent.packet
    (step_made c.in_ok-given-2.given) (holding_answer c.tell-then-is_farther.result) (sourced c.if-not-receiver.false) c.if-sequence-number.false
    (sym c.is_farther.ensures ∙ c.if-is_farther.true)
    (c.in_ok-given-2.ensures ∙ ap (λ (r : Receiver). read_given r a.lent.bytes.now a.lent.packet) c.cleared.ensures) refl c.tell-then-is_farther.ensures

pub returns-else-is_farther : goal.returns-else-is_farther
returns-else-is_farther c s =
    let a = c.args in
    stays_behind (receiver_of a.receiver) a.clock a.new.bytes.now a.new.packet (step_made c.in_ok-step.step) c.in_ok-step.ensures (holding_of c.stay-else-is_farther.result.receiver) a.arrival a.lent.bytes.now a.lent.packet
    (call_made c.stay-else-is_farther.result) c.stay-else-is_farther.ensures (sourced c.if-not-receiver.false) c.if-sequence-number.false
    (sym c.is_break.ensures ∙ c.if-is_break.false) (sym c.is_farther.ensures ∙ c.if-is_farther.false)
