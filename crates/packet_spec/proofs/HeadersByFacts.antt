-- Reading the block headers, by plain facts.
use Prim.Native.Nat.{ℕ, zero, suc, ◌+◌, ◌-◌, ◌<◌, ◌≤◌}
use mathlib.Core.Path.{◌≡◌, ◌∙◌, refl, ap, sym}
use mathlib.Core.List.{List, [], ◌∷◌, ◌++◌}
use mathlib.Core.Bool.{cond}
use native.Mathlib.Omega.{arith}
use lib.Dec.{ltb, eqb}
use lib.ListN.{length, get_or, take, drop, length-take, drop_of_length-le}
use lib.Seq.{slice, slice-cons, length-slice}
use borrow.Author.Tests.{lt-ltb, le-ltb, eq-eqb, ne_eqb}
use Rattle.packet_spec.specs.Redundancy.{Head, Heads, heads, bad, head_of, header, headers}
use Rattle.base.proofs.Slices.{drop_slice}

-- what an older block's header leads to
abbrev older_header : ℕ → ℕ → List Head → List ℕ → Heads
older_header t zero got s = bad 18
older_header t (suc n) got s =
    cond (ltb (length s) 4) (bad 17)
    (cond (eqb (get_or s 0 0 - 128) t) (headers t n (got ++ (head_of s ∷ [])) (drop 4 s)) (bad 19))

headers_is : (t n : ℕ) (got : List Head) (s : List ℕ) → headers t n got s ≡ header t got s (older_header t n got s)
unfolding headers
headers_is t zero got s = refl
headers_is t (suc n) got s = refl

pub none_left : (t n : ℕ) (got : List Head) → headers t n got [] ≡ bad 17
none_left t n got = headers_is t n got []

module _ (t : ℕ) (got : List Head) (b : ℕ) (bs : List ℕ) where
  pub last_other : (n : ℕ) → b < 128 → (b ≡ t → ⊥) → headers t n got (b ∷ bs) ≡ bad 19
  last_other n h f = headers_is t n got (b ∷ bs) ∙ rw (lt-ltb b 128 h, ne_eqb b t f)

  pub last : (n : ℕ) → b < 128 → b ≡ t → headers t n got (b ∷ bs) ≡ heads got bs
  last n h e = headers_is t n got (b ∷ bs) ∙ rw (lt-ltb b 128 h, eq-eqb b t e)

  module _ (h : 128 ≤ b) where
    older : (n : ℕ) → headers t n got (b ∷ bs) ≡ older_header t n got (b ∷ bs)
    older n = headers_is t n got (b ∷ bs) ∙ rw (le-ltb b 128 h)

    pub too_many : headers t 0 got (b ∷ bs) ≡ bad 18
    too_many = older 0

    cut_short : (n : ℕ) → length (b ∷ bs) < 4 → headers t (suc n) got (b ∷ bs) ≡ bad 17
    cut_short n k = older (suc n) ∙ rw (lt-ltb (length (b ∷ bs)) 4 k)

    module _ (k : 4 ≤ length (b ∷ bs)) (n : ℕ) where
      older_other : (b - 128 ≡ t → ⊥) → headers t (suc n) got (b ∷ bs) ≡ bad 19
      older_other f = older (suc n) ∙ rw (le-ltb (length (b ∷ bs)) 4 k, ne_eqb (b - 128) t f)

      pub one_more : b - 128 ≡ t → headers t (suc n) got (b ∷ bs) ≡ headers t n (got ++ (head_of (b ∷ bs) ∷ [])) (drop 4 (b ∷ bs))
      one_more e = older (suc n) ∙ rw (le-ltb (length (b ∷ bs)) 4 k, eq-eqb (b - 128) t e)

-- the same of the part of a packet from a place on
pub at_end : (t n : ℕ) (got : List Head) (p : List ℕ) (at end : ℕ) → end ≤ at → headers t n got (slice at end p) ≡ bad 17
at_end t n got p at end h =
    let e : length (take end p) ≤ at = omega (arith, length-take end p) in
    ap (headers t n got) (drop_of_length-le (take end p) e) ∙ none_left t n got

module _ (t : ℕ) (got : List Head) (p : List ℕ) (at end : ℕ) (h : at < end) (k : end ≤ length p) where
  front : slice at end p ≡ get_or p at 0 ∷ slice (suc at) end p
  front = slice-cons at end p 0 h k

  size : length (get_or p at 0 ∷ slice (suc at) end p) ≡ end - at
  size = let e : length (slice (suc at) end p) ≡ end - suc at = length-slice (suc at) end p k in omega arith

  pub at_last_other : (n : ℕ) → get_or p at 0 < 128 → (get_or p at 0 ≡ t → ⊥) → headers t n got (slice at end p) ≡ bad 19
  at_last_other n l f = ap (headers t n got) front ∙ last_other t got (get_or p at 0) (slice (suc at) end p) n l f

  pub at_last : (n : ℕ) → get_or p at 0 < 128 → get_or p at 0 ≡ t → headers t n got (slice at end p) ≡ heads got (slice (suc at) end p)
  at_last n l e = ap (headers t n got) front ∙ last t got (get_or p at 0) (slice (suc at) end p) n l e

  module _ (l : 128 ≤ get_or p at 0) where
    pub at_too_many : headers t 0 got (slice at end p) ≡ bad 18
    at_too_many = ap (headers t 0 got) front ∙ too_many t got (get_or p at 0) (slice (suc at) end p) l

    pub at_cut_short : (n : ℕ) → end < at + 4 → headers t (suc n) got (slice at end p) ≡ bad 17
    at_cut_short n m = ap (headers t (suc n) got) front ∙ cut_short t got (get_or p at 0) (slice (suc at) end p) l n (let e = size in omega arith)

    module _ (m : at + 4 ≤ end) (n : ℕ) where
      room : 4 ≤ length (get_or p at 0 ∷ slice (suc at) end p)
      room = let e = size in omega arith

      pub at_older_other : (get_or p at 0 - 128 ≡ t → ⊥) → headers t (suc n) got (slice at end p) ≡ bad 19
      at_older_other f = ap (headers t (suc n) got) front ∙ older_other t got (get_or p at 0) (slice (suc at) end p) l room n f

      pub at_one_more : get_or p at 0 - 128 ≡ t → headers t (suc n) got (slice at end p) ≡ headers t n (got ++ (head_of (slice at end p) ∷ [])) (slice (at + 4) end p)
      at_one_more e =
          ap (headers t (suc n) got) front
          ∙ one_more t got (get_or p at 0) (slice (suc at) end p) l room n e
          ∙ ap (λ (s : List ℕ). headers t n (got ++ (head_of s ∷ [])) (drop 4 s)) (sym front)
          ∙ ap (headers t n (got ++ (head_of (slice at end p) ∷ []))) (drop_slice at end p 4)
