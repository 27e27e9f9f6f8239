-- The walk over blocks: an older block and what is left after it, and the primary.
use Prim.Native.Nat.{ℕ, ◌+◌, ◌*◌, ◌-◌, ◌<◌, ◌≤◌}
use mathlib.Core.Path.{◌≡◌, ◌∙◌, refl, ap, sym}
use mathlib.Core.List.{List, [], ◌∷◌}
use mathlib.Core.Bool.{Bool, true, ◌&&◌}
use native.Mathlib.Numerals.{add-one}
use native.Mathlib.Omega.{arith}
use lib.ListN.{length, take, drop, drop_of_length-le}
use lib.Seq.{slice, drop-cons}
use Rattle.text_spec.specs.Utf8.{is_text}
use Rattle.packet_spec.specs.Redundancy.{Head, total, are_text}
use Rattle.packet_spec.specs.Internal.Heads.{heads_in}
use Rattle.packet_spec.proofs.HeadsIn.{heads_length}
use Rattle.packet_spec.proofs.TextBlocks.{text_first}
use Rattle.block_headers.specs.Headers.{no_head, head_at}
use Rattle.block_headers.proofs.HeadPlaces.{head_at_is}
use Rattle.base.proofs.Slices.{mid_slice, take_slice, drop_slice}

-- block k lies from at to to, within end; what is left to check is it and what lies after it
pub record Here (p : List ℕ) (hs : List Head) (count end k at to : ℕ) : Type 0 where
  pub ahead : at ≤ to
  pub fits : to + total (drop (k + 1) hs) ≤ end
  pub last : count ≤ k → to ≡ end
  pub text : (text : Bool) → text ≡ is_text (take (to - at) (drop at p)) → are_text (drop k hs) (slice at end p) ≡ (text && are_text (drop (k + 1) hs) (slice to end p))

-- the older block whose header is at hand
module _ (p : List ℕ) (from count end k at : ℕ) (h : k < count) (inside : from + 4 * count ≤ length p) (fit : at + total (drop k (heads_in count (drop from p))) ≤ end)
    (head : Head) (e : head ≡ head_at p (from + 4 * k)) (to : ℕ) (ends : to ≡ at + head.len) where
  headed : drop k (heads_in count (drop from p)) ≡ head ∷ drop (k + 1) (heads_in count (drop from p))
  headed =
      let hs = heads_in count (drop from p) in
      drop-cons hs k no_head (omega (arith, heads_length count (drop from p)))
      ∙ rw (add-one k, e, head_at_is p from count k h inside)

  older_fits : to + total (drop (k + 1) (heads_in count (drop from p))) ≤ end
  older_fits = omega (arith, ap total headed)

  older_text : (text : Bool) → text ≡ is_text (take (to - at) (drop at p))
      → are_text (drop k (heads_in count (drop from p))) (slice at end p)
      ≡ (text && are_text (drop (k + 1) (heads_in count (drop from p))) (slice to end p))
  older_text text f =
      ap (λ (l : List Head). are_text l (slice at end p)) headed
      ∙ text_first head (drop (k + 1) (heads_in count (drop from p))) (slice at end p)
      ∙ rw (f, mid_slice at to p (omega arith), ends, take_slice at end p head.len (omega (arith, older_fits)), drop_slice at end p head.len)

  pub older_here : Here p (heads_in count (drop from p)) count end k at to
  older_here = record { ahead = omega arith; fits = older_fits; last = λ n. absurd (omega arith); text = older_text }

slice_none : (p : List ℕ) (end : ℕ) → slice end end p ≡ []
slice_none p end =
    let e : end - end ≡ 0 = omega arith in
    sym (mid_slice end end p (omega arith)) ∙ ap (λ (k : ℕ). take k (drop end p)) e

-- the primary, after which nothing is left
pub primary_here : (p s : List ℕ) (count end k at : ℕ) → count ≤ k → at ≤ end → Here p (heads_in count s) count end k at end
primary_here p s count end k at h a =
    let hs = heads_in count s in
    let last : drop k hs ≡ [] = drop_of_length-le hs (omega (arith, heads_length count s)) in
    let none : drop (k + 1) hs ≡ [] = drop_of_length-le hs (omega (arith, heads_length count s)) in
    record {
      ahead = a;
      fits = omega (arith, ap total none);
      last = λ _. refl;
      text = λ text e. rw (last, none, slice_none p end, e, mid_slice at end p a) refl;
    }

-- after the primary nothing is left, which is text
pub none_left : (p s : List ℕ) (count end k at : ℕ) → count + 1 ≤ k → at ≡ end → are_text (drop k (heads_in count s)) (slice at end p) ≡ true
none_left p s count end k at h e =
    let none : drop k (heads_in count s) ≡ [] = drop_of_length-le (heads_in count s) (omega (arith, heads_length count s)) in
    rw (none, e, slice_none p end) refl
