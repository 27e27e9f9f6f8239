-- Fronts of lists.
use Prim.Native.Nat.{ℕ, zero, suc, ◌-◌, min}
use mathlib.Core.Path.{◌≡◌, ◌∙◌, refl, ap, sym}
use mathlib.Core.List.{List, [], ◌∷◌, ◌++◌}
use native.Mathlib.Omega.{arith}
use lib.ListN.{length, take, drop}
use lib.Seq.{take-nil}

pub empty : {A : Type 0} (l : List A) → length l ≡ 0 → l ≡ []
empty [] h = refl
empty (a ∷ l) h = absurd (no_suc (length l) h)
  where
    no_suc : (n : ℕ) → suc n ≡ 0 → ⊥
    no_suc n z = omega arith

module _ {A : Type 0} where
  pub take_min : (x : List A) (k : ℕ) → take (min (length x) k) x ≡ take k x
  take_min [] k = take-nil (min 0 k) ∙ sym (take-nil k)
  take_min (b ∷ x) zero = let z : min (suc (length x)) 0 ≡ 0 = omega arith in rw z
  take_min (b ∷ x) (suc k) = let z : min (suc (length x)) (suc k) ≡ suc (min (length x) k) = omega arith in rw z (ap (λ (l : List A). b ∷ l) (take_min x k))

  pub take_more : (k : ℕ) (x y : List A) → take k (x ++ y) ≡ take k x ++ take (k - length x) y
  take_more k [] y = let z : k - 0 ≡ k = omega arith in rw (take-nil k, z)
  take_more zero (b ∷ x) y = let z : 0 - suc (length x) ≡ 0 = omega arith in rw z
  take_more (suc k) (b ∷ x) y = let z : suc k - suc (length x) ≡ k - length x = omega arith in rw z (ap (λ (l : List A). b ∷ l) (take_more k x y))

  -- a part of the front is a part of the whole
  pub drop_take : (f n : ℕ) (l : List A) → drop f (take n l) ≡ take (n - f) (drop f l)
  drop_take zero n l = let z : n - 0 ≡ n = omega arith in rw z
  drop_take (suc f) zero l = let z : 0 - suc f ≡ 0 = omega arith in rw z
  drop_take (suc f) (suc n) [] = sym (take-nil (suc n - suc f))
  drop_take (suc f) (suc n) (x ∷ l) = let z : suc n - suc f ≡ n - f = omega arith in rw z (drop_take f n l)
