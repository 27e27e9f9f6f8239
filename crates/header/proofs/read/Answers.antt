use Rattle.std.proofs.Common.{rules, ◌≡◌, ◌∙◌, false, sym}
use Rattle.packet_spec.specs.Header.{types_bad}
use Rattle.packet.specs.Places.{expected_source}
use Rattle.header.specs.Internal.Seen.{refused_header, passed_header, header_of}
use Rattle.packet_spec.proofs.CheckOrder.{from, gives_3, past_3}
use Rattle.layout.proofs.AnswerTells.{refused_told, passed_told, lies_told}
use Rattle.header.proofs.read.Goals as goal

pub returns-then-types_bad : goal.returns-then-types_bad
unfolding header_of
returns-then-types_bad c =
    let a = c.args in
    let p = a.packet.now in
    sym (gives_3 refused_header (expected_source a.expected) a.t140 a.red p (passed_header a.t140 p) (sym c.types_bad.ensures ∙ c.if-types_bad.true))

pub read_fields-requires : goal.read_fields-requires
read_fields-requires c = lies_told c.args.packet.now c.in_ok-layout.layout c.in_ok-layout.ensures

pub returns-in_err-layout : goal.returns-in_err-layout
unfolding header_of
returns-in_err-layout c =
    let a = c.args in
    let p = a.packet.now in
    let x = passed_header a.t140 p in
    let e = expected_source a.expected in
    let types_good : types_bad a.t140 a.red ≡ false = sym c.types_bad.ensures ∙ c.if-types_bad.false in
    let told = past_3 refused_header e a.t140 a.red p x types_good ∙ refused_told p _ c.in_err-layout.ensures refused_header (from refused_header e a.t140 a.red p x 6) in
    search (rules, told)

pub returns : goal.returns
unfolding header_of
returns c =
    let a = c.args in
    let p = a.packet.now in
    let x = passed_header a.t140 p in
    let e = expected_source a.expected in
    let types_good : types_bad a.t140 a.red ≡ false = sym c.types_bad.ensures ∙ c.if-types_bad.false in
    c.read_fields.ensures
    ∙ sym (past_3 refused_header e a.t140 a.red p x types_good ∙ passed_told p c.in_ok-layout.layout c.in_ok-layout.ensures refused_header (from refused_header e a.t140 a.red p x 6))
