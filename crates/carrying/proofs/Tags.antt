-- The ages and lengths of the blocks, each in one number.
use Prim.Native.Nat.{ℕ, zero, suc, ◌+◌, ◌-◌, ◌/◌, ◌%◌, ◌≤◌, ◌<◌, min}
use mathlib.Core.Path.{◌≡◌, ◌∙◌, refl, ap, sym, subst}
use mathlib.Core.List.{List, [], ◌∷◌}
use mathlib.Core.Bool.{Bool, true, false}
use native.Mathlib.Nat.{not-suc-le-zero, le_of_suc-le-suc}
use native.Mathlib.Omega.{arith}
use lib.ListN.{length, take, drop, get_or, set, replicate, length-replicate, length-take, get_or-append, get_or-replicate}
use lib.Dec.{ltb}
use lib.Seq.{get_or-take, get_or-drop, get_or-append_right}
use Rattle.base.proofs.Replaced.{replaced_more}
use borrow.Author.Tests.{leb-true, ltb-true, ltb-false}
use Rattle.delivery.specs.Run.{oldest_age}
use Rattle.packet_spec.specs.Limits.{level}
use Rattle.sender_spec.specs.Limits.{room_size}
use Rattle.carrying.specs.Internal.Young.{young, tag_of, tags_of, tagged, TagFirst}

-- the age fits the 14 bits of a time offset
pub tag_age : (t n at : ℕ) → young t at ≡ true → tag_of t n at / 256 % 16384 ≡ t - at
tag_age t n at e = omega (arith, leb-true (t - at) oldest_age e)

pub tag_len : (t n at : ℕ) → tag_of t n at % 256 ≡ min n room_size
tag_len t n at = omega arith

-- the first n numbers are those of the blocks
abbrev pub AreTags : ℕ → List ℕ → List ℕ → ℕ → List ℕ → Type 0
AreTags t lens ats n tags = (i : ℕ) → i < n → get_or tags i 0 ≡ tag_of t (get_or lens i 0) (get_or ats i 0)

tags_length : (t : ℕ) (lens ats : List ℕ) → length lens ≡ length ats → length (tags_of t lens ats) ≡ length ats
tags_length t [] [] e = refl
tags_length t [] (at ∷ ats) e = absurd (omega arith)
tags_length t (n ∷ lens) [] e = absurd (omega arith)
tags_length t (n ∷ lens) (at ∷ ats) e = ap suc (tags_length t lens ats (omega arith))

tag_at : (t : ℕ) (lens ats : List ℕ) (i : ℕ) → i < length lens → i < length ats → get_or (tags_of t lens ats) i 0 ≡ tag_of t (get_or lens i 0) (get_or ats i 0)
tag_at t [] ats i h k = absurd (not-suc-le-zero h)
tag_at t (n ∷ lens) [] i h k = absurd (not-suc-le-zero k)
tag_at t (n ∷ lens) (at ∷ ats) zero h k = refl
tag_at t (n ∷ lens) (at ∷ ats) (suc i) h k = tag_at t lens ats i (le_of_suc-le-suc h) (le_of_suc-le-suc k)

module _ (t : ℕ) (lens ats : List ℕ) (l : length lens ≡ level) (a : length ats ≡ level) where
  long : length (tags_of t lens ats) ≡ level
  long = tags_length t lens ats (omega arith) ∙ a

  pub tagged_more : (i : ℕ) → i < level → (m : ℕ) → m ≡ tag_of t (get_or lens i 0) (get_or ats i 0) → set (tagged t lens ats i) i m ≡ tagged t lens ats (suc i)
  tagged_more i h m e =
      let f : m ≡ get_or (tags_of t lens ats) i 0 = e ∙ sym (tag_at t lens ats i (omega arith) (omega arith)) in
      ap (λ (k : ℕ). set (tagged t lens ats i) i k) f ∙ replaced_more (tags_of t lens ats) (replicate level 0) i (omega (arith, long)) (omega (arith, length-replicate {A = ℕ} level 0))

  pub tagged_are : (n : ℕ) → n ≤ level → AreTags t lens ats n (tagged t lens ats n)
  tagged_are n k i h =
      get_or-append (take n (tags_of t lens ats)) (drop n (replicate level 0)) 0 i (omega (arith, long, length-take n (tags_of t lens ats)))
      ∙ get_or-take n (tags_of t lens ats) i 0 h
      ∙ tag_at t lens ats i (omega arith) (omega arith)

  past : (n i : ℕ) → n ≤ i → i < level → ◌≡◌ {A = ℕ} (get_or (drop n (replicate level 0)) (i - n) 0) 0
  past n i h k = get_or-drop {A = ℕ} n (replicate level 0) (i - n) 0 ∙ get_or-replicate {A = ℕ} level (n + (i - n)) 0 0 (omega arith)

  pub tags_first : (n : ℕ) → n ≤ level → TagFirst (tagged t lens ats n) n
  tags_first n k i h = (
    λ g. subst (λ (m : ℕ). 0 < m) (sym (tagged_are n k i g)) (omega arith),
    λ g.
        let z : length (take n (tags_of t lens ats)) ≡ n = omega (arith, long, length-take n (tags_of t lens ats)) in
        get_or-append_right (take n (tags_of t lens ats)) (drop n (replicate level 0)) i 0 (omega arith) ∙ ap (λ (m : ℕ). get_or (drop n (replicate level 0)) (i - m) 0) z ∙ past n i g h,
  )

-- which tag it is
module _ (tags : List ℕ) (n : ℕ) (first : TagFirst tags n) (i : ℕ) (h : i < level) where
  pub tag_below : 0 < get_or tags i 0 → i < n
  tag_below g = go (ltb i n) refl
    where
      go : (b : Bool) → ltb i n ≡ b → i < n
      go true e = ltb-true i n e
      go false e = let z : get_or tags i 0 ≡ 0 = (first i h).1 (ltb-false i n e) in absurd (omega arith)

  pub tag_past : get_or tags i 0 ≤ 0 → n ≤ i
  tag_past f = go (ltb i n) refl
    where
      go : (b : Bool) → ltb i n ≡ b → n ≤ i
      go true e = let z : 0 < get_or tags i 0 = (first i h).0 (ltb-true i n e) in absurd (omega arith)
      go false e = ltb-false i n e
