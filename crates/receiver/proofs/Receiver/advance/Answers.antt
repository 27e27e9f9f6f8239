use Rattle.std.proofs.Common.{◌∙◌, ap, rules}
use Rattle.packet_spec.specs.Header.{Expected}
use Rattle.packet.specs.Places.{read_of}
use Rattle.receiver.specs.View.{receiver_of}
use Rattle.receiver.proofs.Steps.{refused_step, few_older, accepted_step_lem}
use Rattle.receiver.proofs.Receiver.advance.Goals as goal

pub returns-in_err-read : goal.returns-in_err-read
returns-in_err-read c =
    let a = c.args in
    let read = c.in_err-read.ensures ∙ ap (λ (x : Expected). read_of x a.self.t140 a.self.red a.packet.now) c.source_expected-expected.ensures in
    let told = refused_step (receiver_of a.self) a.packet.now _ read in
    search (rules, told)

pub invariant_of-arrived : goal.invariant_of-arrived
invariant_of-arrived c =
    let a = c.args in
    let read = c.in_ok-read.ensures ∙ ap (λ (x : Expected). read_of x a.self.t140 a.self.red a.packet.now) c.source_expected-expected.ensures in
    record { few_older = few_older (receiver_of a.self) a.packet.now _ read }

pub returns : goal.returns
returns c =
    let a = c.args in
    let read = c.in_ok-read.ensures ∙ ap (λ (x : Expected). read_of x a.self.t140 a.self.red a.packet.now) c.source_expected-expected.ensures in
    c.accept.ensures ∙ accepted_step_lem (receiver_of a.self) a.packet.now _ read
