use Prim.Native.Nat.{ℕ, suc, ◌+◌, ◌-◌}
use mathlib.Core.Path.{◌≡◌, ◌∙◌, refl, ap, sym}
use mathlib.Core.List.{List, [], ◌∷◌, ◌++◌, map}
use mathlib.Core.Bool.{Bool, ◌&&◌}
use native.Mathlib.Omega.{arith}
use lib.Dec.{ltb}
use lib.ListN.{length, length-append}
use lib.Seq.{slice, length-slice}
use borrow.Author.Rules.{rules}
use Rattle.packet_spec.specs.Limits.{level}
use Rattle.packet_spec.specs.Redundancy as Heads
use Rattle.packet_spec.specs.Redundancy.{Head, head_of, headers}
use Rattle.block_headers.specs.Headers.{seen_head}
use Rattle.block_headers.specs.Internal.Seen.{seen_before}
use Rattle.packet_spec.proofs.Limits.{level_most}
use Rattle.packet_spec.proofs.Falling.{fall_to, fall_more, fall_to_none}
use Rattle.packet_spec.proofs.HeadsIn.{head_within, total_snoc}
use Rattle.packet_spec.proofs.HeadersByFacts.{at_end, at_last_other, at_last, at_too_many, at_cut_short, at_older_other, at_one_more}
use Rattle.block_headers.proofs.read_headers.Goals as goal

offsets_snoc : (hs : List Head) (h : Head) → map (λ (x : Head). x.offset) (hs ++ (h ∷ [])) ≡ map (λ (x : Head). x.offset) hs ++ (h.offset ∷ [])
offsets_snoc [] h = refl
offsets_snoc (x ∷ xs) h = ap (λ (l : List ℕ). x.offset ∷ l) (offsets_snoc xs h)

pub returns-then-end-at : goal.returns-then-end-at
returns-then-end-at c =
    let a = c.args in
    let l = c.loop-at in
    let g = l.invariant.3 in
    ap (seen_before a.end) (sym (g.rest ∙ at_end a.t140 (level - l.count) g.hs a.packet.now l.at a.end c.if-end-at.true))

pub returns-then-b-t140 : goal.returns-then-b-t140
returns-then-b-t140 c =
    let a = c.args in
    let l = c.loop-at in
    let g = l.invariant.3 in
    ap (seen_before a.end)
    (sym (g.rest ∙ at_last_other a.t140 g.hs a.packet.now l.at a.end c.if-end-at.false (search rules) (level - l.count) c.if-b-lt128.true c.if-b-t140.true))

pub returns-then-b-lt128 : goal.returns-then-b-lt128
returns-then-b-lt128 c =
    let a = c.args in
    let l = c.loop-at in
    let g = l.invariant.3 in
    let p = a.packet.now in
    let s = slice (suc l.at) a.end p in
    let n : l.count ≡ length g.hs = sym g.many in
    let f : l.at + 1 ≡ a.end - length s = omega (arith, length-slice (suc l.at) a.end p (search rules)) in
    let e : l.at + 1 + l.total ≡ a.end - length s + Heads.total g.hs = ap (λ (k : ℕ). k + l.total) f ∙ ap (λ (k : ℕ). a.end - length s + k) (sym g.bytes) in
    let o : c.fall_to-ages_fall.result ≡ Heads.ages_fall g.hs = c.fall_to-ages_fall.ensures ∙ sym (g.ages 0 (omega arith)) ∙ sym (fall_to_none (map (λ (h : Head). h.offset) g.hs)) in
    (λ i. record { number = 0; count = n i; first = f i; primary = e i; fall = o i })
    ∙ ap (seen_before a.end)
    (sym (g.rest ∙ at_last a.t140 g.hs p l.at a.end c.if-end-at.false (search rules) (level - l.count) c.if-b-lt128.true c.if-b-t140.false))

pub returns-then-count-eq-LEVEL : goal.returns-then-count-eq-LEVEL
unfolding level
returns-then-count-eq-LEVEL c =
    let a = c.args in
    let l = c.loop-at in
    let g = l.invariant.3 in
    let p = a.packet.now in
    let n : level - l.count ≡ 0 = omega arith in
    ap (seen_before a.end)
    (sym (g.rest ∙ ap (λ (m : ℕ). headers a.t140 m g.hs (slice l.at a.end p)) n
    ∙ at_too_many a.t140 g.hs p l.at a.end c.if-end-at.false (search rules) c.if-b-lt128.false))

pub returns-then-end-at-2 : goal.returns-then-end-at-2
unfolding level
returns-then-end-at-2 c =
    let a = c.args in
    let l = c.loop-at in
    let g = l.invariant.3 in
    let p = a.packet.now in
    let n : level - l.count ≡ suc (level - (l.count + 1)) = omega arith in
    ap (seen_before a.end)
    (sym (g.rest ∙ ap (λ (m : ℕ). headers a.t140 m g.hs (slice l.at a.end p)) n
    ∙ at_cut_short a.t140 g.hs p l.at a.end c.if-end-at.false (search rules) c.if-b-lt128.false (level - (l.count + 1)) c.if-end-at-2.true))

pub returns-then-b-t140-2 : goal.returns-then-b-t140-2
unfolding level
returns-then-b-t140-2 c =
    let a = c.args in
    let l = c.loop-at in
    let g = l.invariant.3 in
    let p = a.packet.now in
    let n : level - l.count ≡ suc (level - (l.count + 1)) = omega arith in
    ap (seen_before a.end)
    (sym (g.rest ∙ ap (λ (m : ℕ). headers a.t140 m g.hs (slice l.at a.end p)) n
    ∙ at_older_other a.t140 g.hs p l.at a.end c.if-end-at.false (search rules) c.if-b-lt128.false c.if-end-at-2.false (level - (l.count + 1)) c.if-b-t140-2.true))

pub loop-at-smaller : goal.loop-at-smaller
unfolding level
loop-at-smaller c = search rules

pub loop-at-preserved : goal.loop-at-preserved
unfolding level
loop-at-preserved c =
    let a = c.args in
    let l = c.loop-at in
    let g = l.invariant.3 in
    let p = a.packet.now in
    let h = head_of (slice l.at a.end p) in
    let r = c.read_head-head in
    let is : seen_head r.result ≡ h = r.ensures.0 ∙ sym (head_within l.at a.end p c.if-end-at-2.false) in
    let n : level - l.count ≡ suc (level - (l.count + 1)) = omega arith in (
      omega arith,
      omega arith,
      omega (arith, r.ensures.2),
      record {
        hs = g.hs ++ (h ∷ []);
        many = length-append g.hs (h ∷ []) ∙ ap (λ (k : ℕ). k + 1) g.many;
        bytes = total_snoc g.hs h ∙ ap (λ (k : ℕ). k + h.len) g.bytes ∙ ap (λ (x : Head). l.total + x.len) (sym is) ∙ ap (λ (k : ℕ). l.total + k) (sym c.from-total.ensures);
        ages = λ x small.
            ap (λ (os : List ℕ). fall_to os x) (offsets_snoc g.hs h)
            ∙ fall_more (map (λ (y : Head). y.offset) g.hs) h.offset x
            ∙ ap (λ (y : Head). fall_to (map (λ (z : Head). z.offset) g.hs) y.offset && ltb x y.offset) (sym is)
            ∙ ap (λ (b : Bool). b && ltb x r.result.offset) (g.ages r.result.offset (omega (arith, r.ensures.1)) ∙ sym c.fall_to-fall.ensures);
        rest = g.rest
            ∙ ap (λ (m : ℕ). headers a.t140 m g.hs (slice l.at a.end p)) n
            ∙ at_one_more a.t140 g.hs p l.at a.end c.if-end-at.false (search rules) c.if-b-lt128.false c.if-end-at-2.false (level - (l.count + 1)) c.if-b-t140-2.false;
      },
    )
