use Rattle.std.proofs.Common.{true, ◌≡◌, ◌∙◌, ◌+◌, ◌-◌, length, ap, sym, arith}
use Rattle.std.proofs.Math.Seq.{slice, length-slice}
use Rattle.block_headers.specs.Internal.Seen.{seen_before, headers_of}
use Rattle.block_headers.proofs.HeadersByFacts.{crossed, outside, none_inside, some_inside}
use Rattle.block_headers.proofs.read.Goals as goal
use Rattle.block_headers.proofs.read.Goals.{then-end-from-via-then-end-from, then-end-from-via-else-end-from+then-packet-end}

pub returns-then-end-from : goal.returns-then-end-from
unfolding headers_of
returns-then-end-from c =
    let a = c.args in
    elim c.then-end-from.branch [
      | then-end-from-via-then-end-from w ↦ ap (seen_before a.end) (sym (crossed a.plain a.t140 a.packet.now a.from a.end w.if-end-from.true))
      | then-end-from-via-else-end-from+then-packet-end w ↦ ap (seen_before a.end) (sym (outside a.plain a.t140 a.packet.now a.from a.end w.if-end-from.false w.if-packet-end.true))
    ]

pub returns-then-plain : goal.returns-then-plain
unfolding headers_of
returns-then-plain c =
    let a = c.args in
    let p = a.packet.now in
    let f : a.from ≡ a.end - length (slice a.from a.end p) = omega (arith, length-slice a.from a.end p c.if-packet-end.false) in
    let e : a.from ≡ a.end - length (slice a.from a.end p) + 0 = omega arith in
    (λ i. record { number = 0; count = 0; first = f i; primary = e i; fall = true })
    ∙ ap (seen_before a.end) (sym (none_inside a.plain a.t140 p a.from a.end c.if-end-from.false c.if-packet-end.false c.if-plain.true))

pub returns : goal.returns
unfolding headers_of
returns c =
    let a = c.args in
    c.read_headers.ensures
    ∙ ap (seen_before a.end)
    (sym (some_inside a.plain a.t140 a.packet.now a.from a.end c.if-end-from.false c.if-packet-end.false c.if-plain.false))
