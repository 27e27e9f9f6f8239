use Rattle.std.proofs.Common.{◌∙◌, drop, sym, rules}
use Rattle.std.proofs.Math.Seq.{slice}
use Rattle.packet_spec.specs.Redundancy.{heads}
use Rattle.packet_spec.specs.Internal.Heads.{heads_in}
use Rattle.block_headers.proofs.AnswerTells.{refused_told, accepted_told}
use Rattle.blocks.proofs.SeenByFacts.{behind}
use Rattle.blocks.proofs.read.Goals as goal

pub returns-in_err-headers : goal.returns-in_err-headers
returns-in_err-headers c =
    let a = c.args in
    let told = behind a.plain a.t140 a.packet.now a.from a.end _ (refused_told a.plain a.t140 a.packet.now a.from a.end _ c.in_err-headers.ensures) in
    search (rules, told)

pub read_blocks-requires : goal.read_blocks-requires
read_blocks-requires c =
    let a = c.args in
    let t = accepted_told a.plain a.t140 a.packet.now a.from a.end c.in_ok-headers.headers c.in_ok-headers.ensures in
    (t.room, t.ahead, t.within, t.bytes, t.fall)

pub returns : goal.returns
returns c =
    let a = c.args in
    let p = a.packet.now in
    let h = c.in_ok-headers.headers in
    c.read_blocks.ensures
    ∙ sym (behind a.plain a.t140 p a.from a.end (heads (heads_in h.count (drop a.from p)) (slice h.first a.end p)) (accepted_told a.plain a.t140 p a.from a.end h c.in_ok-headers.ensures).are)
