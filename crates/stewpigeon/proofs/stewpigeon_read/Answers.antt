use Rattle.std.proofs.Common.{◌∙◌, ap}
use Rattle.packet_spec.specs.Header.{Expected}
use Rattle.boundary.specs.Answers.{expected_of}
use Rattle.packet.specs.Places.{read_of}
use Rattle.boundary.proofs.PacketRecords.{leaves_refused, leaves_accepted}
use Rattle.stewpigeon.proofs.stewpigeon_read.Goals as goal

pub returns-in-Ok : goal.returns-in-Ok
returns-in-Ok c =
    let a = c.args in
    let read = c.in-Ok in
    let told = read.ensures ∙ ap (λ (x : Expected). read_of x a.t140 a.red a.packet.now) c.expected_of-expected.ensures in
    let l = leaves_accepted (expected_of a.expects a.source) a.t140 a.red a.packet.now a.answer.now read.read told in
    (l.0, c.record_of.ensures ∙ l.1)

pub returns-in-Err : goal.returns-in-Err
returns-in-Err c =
    let a = c.args in
    let read = c.in-Err in
    let told = read.ensures ∙ ap (λ (x : Expected). read_of x a.t140 a.red a.packet.now) c.expected_of-expected.ensures in
    let l = leaves_refused (expected_of a.expects a.source) a.t140 a.red a.packet.now a.answer.now read.refusal told in
    (c.from.ensures ∙ l.0, l.1)
