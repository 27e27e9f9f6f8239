use Rattle.std.proofs.Common.{◌≡◌, ◌∙◌, ◌-◌, true, length, drop, ap, sym, arith}
use Rattle.std.proofs.Math.Seq.{slice, length-slice}
use borrow.Author.Tests.{not-false}
use Rattle.packet_spec.specs.Redundancy.{ages_fall}
use Rattle.packet_spec.specs.Internal.Heads.{heads_in}
use Rattle.blocks.specs.Internal.Seen.{refused_blocks, placed_blocks}
use Rattle.packet_spec.proofs.HeadsIn.{heads_length}
use Rattle.blocks.proofs.Outcomes.{led, text_leads}
use Rattle.blocks.proofs.SeenByFacts.{placed_from}
use Rattle.blocks.proofs.read_blocks.Goals as goal

pub returns : goal.returns
returns c =
    let a = c.args in
    let h = a.headers in
    let p = a.packet.now in
    let hs = heads_in h.count (drop a.from p) in
    let s = slice h.first a.end p in
    let l : length s ≡ a.end - h.first = length-slice h.first a.end p (omega arith) in
    let x = placed_blocks a.end hs s in
    let ages : ages_fall hs ≡ true = sym c.requires.4 ∙ not-false h.ages_fall c.if-not-headers.false in
    let n : h.count ≡ length hs = sym (heads_length h.count (drop a.from p)) in
    (λ i. record { number = 0; count = n i; first = h.first; primary = c.requires.3 i })
    ∙ placed_from p h.first a.end hs (omega arith) (omega arith)
    ∙ sym (text_leads refused_blocks x hs s (omega arith) ages ∙ ap (led refused_blocks x) (sym c.judge_text.ensures ∙ c.in_ok-judge_text.was))
