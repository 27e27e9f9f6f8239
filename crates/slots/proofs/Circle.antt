-- A circle of m places, whatever m is: remainders of numbers below twice m, and the place so many before another.
use Prim.Native.Nat.{ℕ, suc, ◌+◌, ◌-◌, ◌*◌, ◌%◌, ◌≤◌, ◌<◌}
use mathlib.Core.Path.{◌≡◌, ◌∙◌, refl, ap}
use mathlib.Core.Bool.{Bool, true, false}
use native.Mathlib.Omega.{arith}
use native.Mathlib.Nat.{mod-eq_of_lt}
use lib.Arith.{digits_mod}
use lib.Dec.{leb, ltb}
use borrow.Author.Tests.{leb-true, leb-false, ltb-true, ltb-false}

module _ (m : ℕ) where
  around : (x : ℕ) → m ≤ x → x < m + m → x % m ≡ x - m
  around x h k = let e : x ≡ 1 * m + (x - m) = omega arith in let l : x - m < m = omega arith in ap (λ (n : ℕ). n % m) e ∙ digits_mod 1 l

  -- the place so many before r
  abbrev before : ℕ → ℕ → ℕ
  before r back = (r + m - back) % m

  module _ (r : ℕ) (h : r < m) where
    pub before_none : before r 0 ≡ r
    before_none = let e = around (r + m - 0) (omega arith) (omega arith) in omega arith

    before_near : (back : ℕ) → back ≤ r → before r back ≡ r - back
    before_near back k = let e = around (r + m - back) (omega arith) (omega arith) in omega arith

    before_far : (back : ℕ) → r < back → back ≤ m → before r back ≡ r + m - back
    before_far back k l = mod-eq_of_lt (omega arith)

    pub before_some : (back : ℕ) → 1 ≤ back → back < m → before r back ≡ r → ⊥
    before_some back k l e = go (leb back r) refl
      where
        go : (b : Bool) → leb back r ≡ b → ⊥
        go true q = let l = leb-true back r q in let n = before_near back l in omega arith
        go false q = let f = leb-false back r q in let n = before_far back f (omega arith) in omega arith

    -- the place behind r
    abbrev after : ℕ
    after = (r + 1) % m

    inner : r + 1 < m → after ≡ r + 1
    inner k = mod-eq_of_lt k

    outer : r + 1 ≡ m → after ≡ 0
    outer e = let n = around (r + 1) (omega arith) (omega arith) in omega arith

    pub before_after : (back : ℕ) → back < m → before after (suc back) ≡ before r back
    before_after back l = go (ltb (r + 1) m) refl
      where
        go : (b : Bool) → ltb (r + 1) m ≡ b → before after (suc back) ≡ before r back
        go true q =
            let e : r + 1 + m - suc back ≡ r + m - back = omega arith in
            ap (λ (n : ℕ). before n (suc back)) (inner (ltb-true (r + 1) m q)) ∙ ap (λ (n : ℕ). n % m) e
        go false q =
            let k = ltb-false (r + 1) m q in
            let e : r + 1 ≡ m = omega arith in
            let first : (0 + m - suc back) % m ≡ 0 + m - suc back = mod-eq_of_lt (omega arith) in
            let last = around (r + m - back) (omega arith) (omega arith) in
            ap (λ (n : ℕ). before n (suc back)) (outer e) ∙ (omega arith)
