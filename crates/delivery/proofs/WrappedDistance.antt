-- The course by the distance; and that around the newest packet the window is exactly what is no jump.
use Prim.Native.Nat.{ℕ, suc, ◌+◌, ◌-◌, ◌≤◌, ◌<◌}
use mathlib.Core.Bool.{Bool, true, false, cond}
use mathlib.Core.Path.{◌≡◌, refl, ap, sym, ◌∙◌}
use native.Mathlib.Omega.{arith}
use lib.Dec.{leb, ltb, eqb}
use borrow.Author.Tests.{lt-ltb, le-ltb, ltb-true, ltb-false, le-leb, lt-leb, leb-true, leb-false, ne_eqb, eqb-true, eqb-false}
use Rattle.delivery.specs.Numbers.{circle, most_ahead, most_behind, wrapped, next}
use Rattle.delivery.specs.Course.{forward, late, jump, break, max_dropout, max_misorder, distance, from_newest, course_from, course_of}

module _ (n : ℕ) (kept : Bool) where
  from_ahead : 0 < n → n < max_dropout → course_from n kept ≡ forward
  from_ahead h k = rw (ne_eqb n 0 (λ e. omega arith), lt-ltb n max_dropout k)

  from_far : max_dropout ≤ n → n ≤ circle - max_misorder → course_from n kept ≡ cond kept break jump
  from_far h k = rw (ne_eqb n 0 (λ e. omega arith), le-ltb n max_dropout h, le-leb n (circle - max_misorder) k)

  from_behind : circle - max_misorder < n → course_from n kept ≡ late
  from_behind h = rw (ne_eqb n 0 (λ e. omega arith), le-ltb n max_dropout (omega arith), lt-leb n (circle - max_misorder) h)

module _ (d : ℕ) (kept : Bool) where
  by_newest : d + 1 < circle → course_of d kept ≡ course_from (d + 1) kept
  by_newest h = let e : from_newest d ≡ d + 1 = omega arith in ap (λ (n : ℕ). course_from n kept) e

  pub course_forward : d + 1 < max_dropout → course_of d kept ≡ forward
  course_forward h = by_newest (omega arith) ∙ from_ahead (d + 1) kept (omega arith) h

  pub course_far : max_dropout ≤ d + 1 → d + 1 ≤ circle - max_misorder → course_of d kept ≡ cond kept break jump
  course_far h k = by_newest (omega arith) ∙ from_far (d + 1) kept h k

  pub course_late : circle - max_misorder < d + 1 → d < circle → course_of d kept ≡ late
  course_late h k = go (eqb (d + 1) circle) refl
    where
      go : (b : Bool) → eqb (d + 1) circle ≡ b → course_of d kept ≡ late
      go true e =
          let x : d + 1 ≡ circle = eqb-true (d + 1) circle e in
          let copy : from_newest d ≡ 0 = omega arith in
          ap (λ (n : ℕ). course_from n kept) copy
      go false e =
          let other : d + 1 ≡ circle → ⊥ = eqb-false (d + 1) circle e in
          by_newest (omega arith) ∙ from_behind (d + 1) kept h

  -- and back
  pub forward_near : d < circle → course_of d kept ≡ forward → d + 1 < max_dropout
  forward_near fits e = go (ltb (d + 1) max_dropout) refl (leb (d + 1) (circle - max_misorder)) refl
    where
      other : (b : Bool) → cond b break jump ≡ forward → ⊥
      other true x = let z : ◌≡◌ {A = ℕ} 0 1 = cc in omega arith
      other false x = let z : ◌≡◌ {A = ℕ} 0 1 = cc in omega arith

      go : (a : Bool) → ltb (d + 1) max_dropout ≡ a → (b : Bool) → leb (d + 1) (circle - max_misorder) ≡ b → d + 1 < max_dropout
      go true x b y = ltb-true (d + 1) max_dropout x
      go false x true y = absurd (other kept (sym (course_far (ltb-false (d + 1) max_dropout x) (leb-true (d + 1) (circle - max_misorder) y)) ∙ e))
      go false x false y =
          let z : late ≡ forward = sym (course_late (leb-false (d + 1) (circle - max_misorder) y) fits) ∙ e in
          absurd (let w : ◌≡◌ {A = ℕ} 0 1 = cc in omega arith)

next_wrapped : (a : ℕ) → next (wrapped a) ≡ wrapped (a + 1)
next_wrapped a = omega arith

distance_added : (b d : ℕ) → d < circle → distance (wrapped (b + d)) (wrapped b) ≡ d
distance_added b d h = omega arith

round : (a : ℕ) → wrapped a ≡ wrapped (a + circle)
round a = omega arith

-- packet k, where packet n was the newest
module _ (first n k : ℕ) where
  abbrev pub d : ℕ
  d = distance (wrapped (first + k)) (next (wrapped (first + n)))

  by_sum : (x : ℕ) → x < circle → wrapped (first + k) ≡ wrapped (first + n + 1 + x) → d ≡ x
  by_sum x h e =
      ap (λ (y : ℕ). distance (wrapped (first + k)) y) (next_wrapped (first + n))
      ∙ ap (λ (y : ℕ). distance y (wrapped (first + n + 1))) e
      ∙ distance_added (first + n + 1) x h

  pub distance_ahead : n < k → k ≤ n + circle → d ≡ k - suc n
  distance_ahead h w =
      let e : first + k ≡ first + n + 1 + (k - suc n) = omega arith in
      by_sum (k - suc n) (omega arith) (ap wrapped e)

  distance_behind : k ≤ n → n < k + circle → d ≡ k + circle - suc n
  distance_behind h w =
      let e : first + k + circle ≡ first + n + 1 + (k + circle - suc n) = omega arith in
      by_sum (k + circle - suc n) (omega arith) (round (first + k) ∙ ap wrapped e)

  module _ (kept : Bool) where
    -- inside the window: ahead of packet n, or behind it or a copy
    pub course_ahead : n < k → k ≤ n + most_ahead → course_of d kept ≡ forward
    course_ahead h w = ap (λ (x : ℕ). course_of x kept) (distance_ahead h (omega arith)) ∙ course_forward (k - suc n) kept (omega arith)

    pub course_behind : k ≤ n → n ≤ k + most_behind → course_of d kept ≡ late
    course_behind h w = ap (λ (x : ℕ). course_of x kept) (distance_behind h (omega arith)) ∙ course_late (k + circle - suc n) kept (omega arith) (omega arith)

    -- outside it, up to where the numbers come round to it again
    pub course_past_ahead : n + most_ahead < k → k + most_behind < n + circle → course_of d kept ≡ cond kept break jump
    course_past_ahead h w = ap (λ (x : ℕ). course_of x kept) (distance_ahead (omega arith) (omega arith)) ∙ course_far (k - suc n) kept (omega arith) (omega arith)

    pub course_past_behind : k + most_behind < n → n + most_ahead < k + circle → course_of d kept ≡ cond kept break jump
    course_past_behind h w = ap (λ (x : ℕ). course_of x kept) (distance_behind (omega arith) (omega arith)) ∙ course_far (k + circle - suc n) kept (omega arith) (omega arith)
