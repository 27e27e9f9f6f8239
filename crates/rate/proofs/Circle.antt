-- The circle of slots.
use Prim.Native.Nat.{ℕ, zero, suc, ◌+◌, ◌-◌, ◌*◌, ◌≤◌, ◌<◌}
use mathlib.Core.Path.{◌≡◌, ◌∙◌, refl, ap}
use mathlib.Core.List.{List}
use mathlib.Core.Bool.{Bool, true, false}
use native.Mathlib.Omega.{arith}
use lib.Dec.{ltb}
use lib.ListN.{set}
use borrow.Author.Tests.{lt-ltb, le-ltb, ltb-true, ltb-false}
use Rattle.base.proofs.Tests.{by_test}
use Rattle.sender_spec.specs.Limits.{highest_rate}
use Rattle.circle.specs.Circle.{after}
use Rattle.rate.specs.Circle.{slots_of, slot_at, slot_back, around, spent_from}

-- a rate that is accepted has a slot for each character of the window
pub slots_limit : (rate : ℕ) → rate ≤ highest_rate → slots_of rate ≡ 10 * rate
slots_limit rate h = omega arith

module _ (n : ℕ) where
  pub slot_same : (at : ℕ) → at < n → slot_at n at ≡ at
  slot_same at h = rw (lt-ltb at n h)

  pub slot_inside : (next : ℕ) → 0 < n → slot_at n next < n
  slot_inside next h = by_test (λ (k : ℕ). k < n) (ltb next n) (λ e. ltb-true next n e) (λ e. h)

  pub slot_within : (next : ℕ) → slot_at n next ≤ n
  slot_within next = by_test (λ (k : ℕ). k ≤ n) (ltb next n) (λ e. let h : next < n = ltb-true next n e in omega arith) (λ e. omega arith)

  pub around_stays : (at : ℕ) → at < n → around n at ≡ at
  around_stays at h = rw (lt-ltb at n h)

  pub around_back : (at : ℕ) → n ≤ at → around n at ≡ at - n
  around_back at h = rw (le-ltb at n h)

  pub around_inside : (at : ℕ) → at < n + n → around n at < n
  around_inside at h =
      by_test (λ (k : ℕ). k < n) (ltb at n) (λ e. ltb-true at n e) (λ e. let l : n ≤ at = ltb-false at n e in omega arith)

  pub after_place : (at : ℕ) → at < n → around n (at + 1) ≡ after n at
  after_place at h =
      by_test (λ (k : ℕ). around n (at + 1) ≡ k) (ltb (at + 1) n) (λ e. around_stays (at + 1) (ltb-true (at + 1) n e))
      (λ e. let l : n ≤ at + 1 = ltb-false (at + 1) n e in around_back (at + 1) l ∙ (omega arith))

  -- a slot stays, and so does the 0 where there is none
  pub slot_stays : (next : ℕ) → around n (slot_at n next) ≡ slot_at n next
  slot_stays next = by_test (λ (k : ℕ). around n k ≡ k) (ltb next n) (λ e. around_stays next (ltb-true next n e)) (λ e. first)
    where
      first : around n 0 ≡ 0
      first = by_test (λ (k : ℕ). k ≡ 0) (ltb 0 n) (λ e. refl) (λ e. omega arith)

  pub stays_inside : (at : ℕ) → 0 < n → around n at ≡ at → at < n
  stays_inside at some h = go (ltb at n) refl
    where
      go : (b : Bool) → ltb at n ≡ b → at < n
      go true e = ltb-true at n e
      go false e = let l : n ≤ at = ltb-false at n e in absurd (omega (arith, around_back at l))

  pub back_before : (at j : ℕ) → j < at → slot_back n at j ≡ at - 1 - j
  back_before at j h = rw (lt-ltb j at h)

  pub back_round : (at j : ℕ) → at ≤ j → slot_back n at j ≡ at + n - 1 - j
  back_round at j h = rw (le-ltb j at h)

  -- the slot that the k-th character would take is the one n - k + 1 before
  pub back_ahead : (at k : ℕ) → at < n → 0 < k → k ≤ n → slot_back n at (n - k) ≡ around n (at + k - 1)
  back_ahead at k h some few = go (ltb (n - k) at) refl
    where
      go : (b : Bool) → ltb (n - k) at ≡ b → slot_back n at (n - k) ≡ around n (at + k - 1)
      go true e =
          let l : n - k < at = ltb-true (n - k) at e in
          back_before at (n - k) l ∙ omega (arith, around_back (at + k - 1) (omega arith))
      go false e =
          let l : at ≤ n - k = ltb-false (n - k) at e in
          back_round at (n - k) l ∙ omega (arith, around_stays (at + k - 1) (omega arith))

  -- the first of k slots
  pub spent_on : (log : List ℕ) (at t k : ℕ) → 0 < k → spent_from n (set log at t) (around n (at + 1)) t (k - 1) ≡ spent_from n log at t k
  spent_on log at t zero h = absurd (omega arith)
  spent_on log at t (suc k) h = let e : suc k - 1 ≡ k = omega arith in ap (spent_from n (set log at t) (around n (at + 1)) t) e
