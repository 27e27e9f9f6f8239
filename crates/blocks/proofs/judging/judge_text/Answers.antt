use Rattle.std.proofs.Common.{ℕ, List, eqb, true, false, ◌≤◌, ◌≡◌, ◌∙◌, ◌-◌, ◌<◌, length, take, drop, get_or, ap, sym, arith, rules}
use Rattle.std.proofs.Math.Seq.{slice, take_all, length-slice}
use lib.ListN.{drop_of_length-le}
use borrow.Author.Tests.{ne_eqb}
use Rattle.std.proofs.lemmas.Grind.{common_steps}
use Rattle.base.specs.Every.{Every}
use Rattle.base.proofs.Slices.{mid_slice}
use mathlib.Core.Option.{some}
use Rattle.std.proofs.Common.{Some}
use Rattle.text_spec.specs.Utf8.{Range, owed_after, is_text}
use Rattle.text_spec.proofs.Ascii.{Ascii}
use Rattle.text_spec.proofs.Walks.{goes_on}
use Rattle.text.specs.declared.Owed.{Owed}
use Rattle.text.specs.Owed.{owes, walked}
use Rattle.text.proofs.Owes.{owes_lead, owes_ascii}
use Rattle.packet_spec.specs.Internal.Heads.{heads_in}
use Rattle.packet_spec.proofs.TextBlocks.{ascii_blocks}
use Rattle.block_headers.specs.Headers.{seen_head}
use Rattle.blocks.proofs.BlockWalk.{Here, older_here, primary_here, none_left}
use Rattle.blocks.proofs.TextWalk.{goes_further, goes_no_further}
use Rattle.blocks.proofs.judging.judge_text.Goals as goal
use Rattle.blocks.proofs.judging.judge_text.Goals.{then-k-count, else-k-count, then-owed-eq0+else-is_ascii+in-Some, else-owed-eq0+in-Some-step}

pub returns-then-ascii_end-payload : goal.returns-then-ascii_end-payload
returns-then-ascii_end-payload c =
    let a = c.args in
    let s = slice a.first a.end a.packet.now in
    let q : take (a.end - a.first) (drop a.first a.packet.now) ≡ s = mid_slice a.first a.end a.packet.now (omega arith) in
    let l : length s ≡ a.end - a.first = length-slice a.first a.end a.packet.now (omega arith) in
    let all : Every Ascii s = rw (q, take_all c.ascii_end.result s (omega arith)) at c.ascii_end.ensures.1 in
    rw (ascii_blocks (heads_in a.count (drop a.from a.packet.now)) s all)

pub slice_bounds-block-end : goal.slice_bounds-block-end
slice_bounds-block-end c =
    let a = c.args in
    let l = c.walk in
    let p = a.packet.now in
    let to = c.if-k-count.to in
    let here : Here p (heads_in a.count (drop a.from p)) a.count a.end l.k l.at to =
    elim c.if-k-count.branch [
      | then-k-count w ↦ older_here p a.from a.count a.end l.k l.at w.if-k-count.true (omega arith) l.invariant.1 (seen_head w.head_at-head.result) w.head_at-head.ensures.0 to (omega arith)
      | else-k-count w ↦ rw (w.to-is) (primary_here p (drop a.from p) a.count a.end l.k l.at w.if-k-count.false (omega arith))
    ] in
    search rules

pub loop-byte-init : goal.loop-byte-init
loop-byte-init c =
    let a = c.args in
    let l = c.walk in
    let p = a.packet.now in
    let to = c.if-k-count.to in
    let here : Here p (heads_in a.count (drop a.from p)) a.count a.end l.k l.at to =
    elim c.if-k-count.branch [
      | then-k-count w ↦ older_here p a.from a.count a.end l.k l.at w.if-k-count.true (omega arith) l.invariant.1 (seen_head w.head_at-head.result) w.head_at-head.ensures.0 to (omega arith)
      | else-k-count w ↦ rw (w.to-is) (primary_here p (drop a.from p) a.count a.end l.k l.at w.if-k-count.false (omega arith))
    ] in
    (l.invariant.0, here, ap (λ (o : List Range). goes_on o (take (to - l.at) (drop l.at p))) (sym c.fresh-owed.ensures))

pub loop-byte-preserved-then-is_ascii : goal.loop-byte-preserved-then-is_ascii
loop-byte-preserved-then-is_ascii c =
    let l = c.loop-byte in
    let s = take (c.if-k-count.to - c.walk.at) (drop c.walk.at c.args.packet.now) in
    let a : get_or s l.byte-index 0 < 0x80 = grind (arith, common_steps) in
    (l.invariant.0, l.invariant.1, l.invariant.2 ∙ goes_further (owes l.owed) l.byte-index s c.loop-byte-test.true (owes_ascii l.owed (get_or s l.byte-index 0) c.if-owed-eq0.true a))

pub loop-byte-preserved : goal.loop-byte-preserved
loop-byte-preserved c =
    let l = c.loop-byte in
    let s = take (c.if-k-count.to - c.walk.at) (drop c.walk.at c.args.packet.now) in
    let b = get_or s l.byte-index 0 in
    let f : owed_after (owes l.owed) b ≡ some (owes c.if-owed-eq0.owed) =
    elim c.if-owed-eq0.branch [
      | then-owed-eq0+else-is_ascii+in-Some w ↦ owes_lead l.owed b w.if-owed-eq0.true (sym w.lead.ensures ∙ ap walked (w.in-Some.is ∙ ap Some (sym w.owed-is)))
      | else-owed-eq0+in-Some-step w ↦ sym w.step.ensures ∙ ap walked (w.in-Some-step.is ∙ ap Some (sym w.owed-is))
    ] in
    (l.invariant.0, l.invariant.1, l.invariant.2 ∙ goes_further (owes l.owed) l.byte-index s c.loop-byte-test.true f)

-- a text at its end
ended : (owed : Owed) (i : ℕ) (s : List ℕ) → length s ≤ i → goes_on (owes owed) (drop i s) ≡ eqb owed.tails 0
ended owed i s h = rw (drop_of_length-le s h) (search rules)

pub walk-preserved : goal.walk-preserved
walk-preserved c =
    let l = c.loop-byte in
    let s = take (c.if-k-count.to - c.walk.at) (drop c.walk.at c.args.packet.now) in
    let text : is_text s ≡ true = l.invariant.2 ∙ ended l.owed l.byte-index s c.loop-byte-test.false ∙ rw c.if-owed-ne0.false in
    (l.invariant.0, l.invariant.1.fits, λ h. l.invariant.1.last (omega arith), c.walk.invariant.3 ∙ l.invariant.1.text true (sym text))

pub returns-after-walk : goal.returns-after-walk
returns-after-walk c =
    let a = c.args in
    let l = c.walk in
    let p = a.packet.now in
    rw (l.invariant.3 ∙ none_left p (drop a.from p) a.count a.end l.k l.at c.walk-test.false (l.invariant.2 (omega arith))) l.invariant.0

pub returns-in_default : goal.returns-in_default
returns-in_default c =
    let l = c.loop-byte in
    let s = take (c.if-k-count.to - c.walk.at) (drop c.walk.at c.args.packet.now) in
    let text : is_text s ≡ false = l.invariant.2 ∙ goes_no_further (owes l.owed) l.byte-index s c.loop-byte-test.true (owes_lead l.owed (get_or s l.byte-index 0) c.if-owed-eq0.true (sym c.lead.ensures ∙ ap walked c.in_default.is)) in
    rw (c.walk.invariant.3 ∙ l.invariant.1.text false (sym text))

pub returns-in_default-step : goal.returns-in_default-step
returns-in_default-step c =
    let l = c.loop-byte in
    let s = take (c.if-k-count.to - c.walk.at) (drop c.walk.at c.args.packet.now) in
    let text : is_text s ≡ false = l.invariant.2 ∙ goes_no_further (owes l.owed) l.byte-index s c.loop-byte-test.true (sym c.step.ensures ∙ ap walked c.in_default-step.is) in
    rw (c.walk.invariant.3 ∙ l.invariant.1.text false (sym text))

pub returns-then-owed-ne0 : goal.returns-then-owed-ne0
returns-then-owed-ne0 c =
    let l = c.loop-byte in
    let s = take (c.if-k-count.to - c.walk.at) (drop c.walk.at c.args.packet.now) in
    let text : is_text s ≡ false = l.invariant.2 ∙ ended l.owed l.byte-index s c.loop-byte-test.false ∙ ne_eqb l.owed.tails 0 c.if-owed-ne0.true in
    rw (c.walk.invariant.3 ∙ l.invariant.1.text false (sym text))
