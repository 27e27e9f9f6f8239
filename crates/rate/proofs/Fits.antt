-- Whether so many characters may leave, by one slot.
use Prim.Native.Nat.{ℕ, zero, suc, ◌+◌, ◌-◌, ◌≤◌, ◌<◌, min}
use mathlib.Core.Path.{◌≡◌, ◌∙◌, refl, ap}
use mathlib.Core.List.{List, [], map}
use mathlib.Core.Bool.{Bool, true, ◌&&◌}
use native.Mathlib.Omega.{arith}
use lib.Dec.{ltb}
use lib.ListN.{length, get_or, drop, drop_of_length-le}
use borrow.Author.Tests.{le-leb}
use Rattle.delivery.specs.Sending.{range}
use Rattle.delivery.proofs.Ranges.{length_map_range, drop_range}
use Rattle.sender_spec.specs.Rate.{window, outside, fits, allowed}
use Rattle.sender_spec.proofs.AllowedTurns.{allowed_fits}
use Rattle.rate.specs.Circle.{slot_back, times_back, around}
use Rattle.rate.proofs.Circle.{back_ahead}

-- the newest of the times j back
outside_slot : (f : ℕ → ℕ) (t j m : ℕ) → j < m → outside t (drop j (map f (range 0 m))) ≡ ltb window (t - f j)
outside_slot f t j m h =
    let z : 0 + j ≡ j = omega arith in
    ap (outside t) (drop_range f 0 m j ∙ ap (λ (i : ℕ). map f (range i (m - j))) z) ∙ go (m - j) (omega arith)
  where
    go : (i : ℕ) → 0 < i → outside t (map f (range j i)) ≡ ltb window (t - f j)
    go zero k = absurd (omega arith)
    go (suc i) k = refl

module _ (n : ℕ) (log : List ℕ) (at used t k : ℕ) (few : k ≤ n) where
  pub fits_empty : 0 < k → used ≤ n - k → fits n (times_back n log at (min used n)) t k ≡ true
  fits_empty some h =
      let l = times_back n log at (min used n) in
      let e : length l ≡ min used n = length_map_range (λ j. get_or log (slot_back n at j) 0) 0 (min used n) in
      let s : length l ≤ n - k = omega arith in
      let d : drop (n - k) l ≡ [] = drop_of_length-le l s in
      ap (λ (b : Bool). b && outside t (drop (n - k) l)) (le-leb k n few) ∙ ap (outside t) d

  pub fits_slot : at < n → 0 < k → n - k < used → fits n (times_back n log at (min used n)) t k ≡ ltb window (t - get_or log (around n (at + k - 1)) 0)
  fits_slot h some more =
      let l = times_back n log at (min used n) in
      ap (λ (b : Bool). b && outside t (drop (n - k) l)) (le-leb k n few)
      ∙ outside_slot (λ j. get_or log (slot_back n at j) 0) t (n - k) (min used n) (omega arith)
      ∙ ap (λ (i : ℕ). ltb window (t - get_or log i 0)) (back_ahead n at k h some few)

-- all of them may take empty slots
pub allowed_empty : (n : ℕ) (log : List ℕ) (at used t k : ℕ) → k ≤ n → used ≤ n - k → allowed n (times_back n log at (min used n)) t k ≡ k
allowed_empty n log at used t zero few h = refl
allowed_empty n log at used t (suc k) few h =
    allowed_fits n (times_back n log at (min used n)) t (suc k) (omega arith) (fits_empty n log at used t (suc k) few (omega arith) h)
