use Rattle.std.proofs.Common.{◌∙◌, ap, sym, rules}
use Rattle.std.proofs.Math.Option.{none}
use Rattle.receiver.specs.View.{receiver_of}
use Rattle.holding_spec.specs.Step.{arrives_read}
use Rattle.holding_spec.specs.State.{holds_none}
use Rattle.holding.proofs.Readings.{refused_is, accepted_is}
use Rattle.holding.proofs.calling.step_alone.Goals as goal

pub returns-in_err-new : goal.returns-in_err-new
returns-in_err-new c t =
    let a = c.args in
    let told = sym (ap (arrives_read (holds_none (receiver_of a.receiver) t) a.clock a.packet.now none) (refused_is (receiver_of a.receiver) a.packet.now _ c.in_err-new.ensures)) in
    search (rules, told)

pub returns : goal.returns
returns c t =
    let a = c.args in
    let h = accepted_is (receiver_of a.receiver) a.packet.now _ c.in_ok-new.ensures in
    c.arrive_alone.ensures _ h.0 h.1 ∙ sym (ap (arrives_read (holds_none (receiver_of a.receiver) t) a.clock a.packet.now none) h.1.read)
