-- What is written from the last to the first.
use Prim.Native.Nat.{ℕ, zero, suc, ◌-◌, ◌<◌}
use mathlib.Core.Path.{◌≡◌, refl}
use mathlib.Core.List.{List, ◌++◌}
use native.Mathlib.Nat.{not-suc-le-zero}
use native.Mathlib.Omega.{arith}
use Rattle.writer.specs.Internal.LastFirst.{last_first}

module _ (f : ℕ → List ℕ) (x : List ℕ) where
  pub last_none : last_first f x 0 ≡ x
  unfolding last_first
  last_none = refl

  pub last_more : (n : ℕ) → last_first f x (suc n) ≡ f n ++ last_first f x n
  unfolding last_first
  last_more n = refl

  pub last_first_lem : (i : ℕ) → 0 < i → last_first f x i ≡ f (i - 1) ++ last_first f x (i - 1)
  last_first_lem zero h = absurd (not-suc-le-zero h)
  last_first_lem (suc n) h = let e : suc n - 1 ≡ n = omega arith in rw e (last_more n)
