use Rattle.std.proofs.Common.{◌∙◌, ap, ap₂, sym, rules}
use Rattle.packet_spec.specs.Reading.{Read}
use Rattle.receiver_spec.specs.State.{read_by}
use Rattle.receiver.specs.View.{receiver_of}
use Rattle.holding_spec.specs.Answers.{HoldingStep}
use Rattle.holding_spec.specs.Step.{arrived_at, arrives_read}
use Rattle.holding_spec.specs.State.{holds_one}
use Rattle.holding.proofs.Readings.{refused_is, accepted_is, lent_accepted}
use Rattle.holding.proofs.Calls.{is_back}
use Rattle.holding.proofs.calling.step_behind.Goals as goal

pub returns-in_err-new : goal.returns-in_err-new
returns-in_err-new c t =
    let a = c.args in
    let s = holds_one (receiver_of a.receiver) a.held.number a.held.arrival t in
    let r = receiver_of a.receiver in
    let h = lent_accepted r a.held.number a.lent.now _ c.in_ok-back.ensures in
    let told =
    sym (ap (arrives_read s a.clock a.packet.now (arrived_at s.arrival a.lent.now (read_by r a.lent.now))) (refused_is r a.packet.now _ c.in_err-new.ensures))
    ∙ is_back s a.clock a.lent.now _ h.1 in
    search (rules, told)

pub returns : goal.returns
returns c t =
    let a = c.args in
    let s = holds_one (receiver_of a.receiver) a.held.number a.held.arrival t in
    let r = receiver_of a.receiver in
    let h = lent_accepted r a.held.number a.lent.now _ c.in_ok-back.ensures in
    let n = accepted_is r a.packet.now _ c.in_ok-new.ensures in
    c.arrive_behind.ensures _ h.0 n.0 h.2 n.1
    ∙ sym (ap₂ {C = HoldingStep} (λ (x y : Read). arrives_read s a.clock a.packet.now (arrived_at s.arrival a.lent.now x) y) h.2.read n.1.read)
    ∙ is_back s a.clock a.lent.now _ h.1
