-- The most characters that may leave, one number after the other.
use Prim.Native.Nat.{ℕ, zero, suc, ◌-◌, ◌≤◌, ◌<◌, min}
use mathlib.Core.Path.{◌≡◌, ◌∙◌, ap, sym, refl}
use mathlib.Core.List.{List}
use mathlib.Core.Bool.{Bool, true, false}
use native.Mathlib.Omega.{arith}
use lib.Dec.{ltb, leb}
use lib.ListN.{drop}
use borrow.Author.Tests.{lt-leb, leb-true, ltb-true, ltb-false}
use Rattle.base.proofs.Tests.{by_test, and_left}
use Rattle.sender_spec.specs.Rate.{outside, fits, allowed}

pub allowed_few : (limit : ℕ) (times : List ℕ) (t n : ℕ) → allowed limit times t n ≤ n
allowed_few limit times t zero = omega arith
allowed_few limit times t (suc n) =
    by_test (λ (k : ℕ). k ≤ suc n) (fits limit times t (suc n)) (λ e. omega arith) (λ e. let h = allowed_few limit times t n in omega arith)

module _ (n : ℕ) (times : List ℕ) (t : ℕ) where
  pub allowed_fits : (k : ℕ) → 0 < k → fits n times t k ≡ true → allowed n times t k ≡ k
  allowed_fits zero h e = absurd (omega arith)
  allowed_fits (suc k) h e = rw e

  pub allowed_less : (k : ℕ) → 0 < k → fits n times t k ≡ false → allowed n times t k ≡ allowed n times t (k - 1)
  allowed_less zero h e = absurd (omega arith)
  allowed_less (suc k) h e = let p : k ≡ suc k - 1 = omega arith in rw e (ap (allowed n times t) p)

  -- no more than n fit
  allowed_above : (k : ℕ) → n ≤ k → allowed n times t (suc k) ≡ allowed n times t k
  allowed_above k h = rw (lt-leb (suc k) n (omega arith))

  pub allowed_held : (k : ℕ) → allowed n times t (min k n) ≡ allowed n times t k
  allowed_held zero = let e : min 0 n ≡ 0 = omega arith in ap (allowed n times t) e
  allowed_held (suc k) = go (ltb k n) refl (allowed_held k)
    where
      go : (b : Bool) → ltb k n ≡ b → allowed n times t (min k n) ≡ allowed n times t k → allowed n times t (min (suc k) n) ≡ allowed n times t (suc k)
      go true e i =
          let l : k < n = ltb-true k n e in
          let m : min (suc k) n ≡ suc k = omega arith in
          ap (allowed n times t) m
      go false e i =
          let l : n ≤ k = ltb-false k n e in
          let m : min (suc k) n ≡ min k n = omega arith in
          ap (allowed n times t) m ∙ i ∙ sym (allowed_above k l)

  pub allowed_within : (k : ℕ) → allowed n times t k ≤ n
  allowed_within zero = omega arith
  allowed_within (suc k) =
      by_test (λ (i : ℕ). i ≤ n) (fits n times t (suc k))
      (λ e. leb-true (suc k) n (and_left (leb (suc k) n) (outside t (drop (n - suc k) times)) e))
      (λ e. allowed_within k)
