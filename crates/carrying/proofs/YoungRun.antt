-- The run of young times.
use Prim.Native.Nat.{ℕ, zero, suc, ◌≤◌, ◌<◌}
use mathlib.Core.Path.{◌≡◌, ◌∙◌, refl, ap}
use mathlib.Core.List.{List, [], ◌∷◌}
use mathlib.Core.Bool.{Bool, true, false, cond}
use native.Mathlib.Nat.{not-suc-le-zero, le_of_suc-le-suc}
use native.Mathlib.Omega.{arith}
use lib.ListN.{length, take, drop, get_or, length-take, drop_of_length-le}
use lib.Seq.{drop-cons, get_or-take}
use Rattle.base.proofs.Tests.{by_test}
use Rattle.carrying.specs.Internal.Young.{young, young_run}

-- the run goes on behind the first k
module _ (t : ℕ) (ats : List ℕ) (most k : ℕ) (h : k < most) (fits : k < length ats) where
  run_at : drop k (take most ats) ≡ get_or ats k 0 ∷ drop (suc k) (take most ats)
  run_at =
      drop-cons (take most ats) k 0 (omega (arith, length-take most ats))
      ∙ ap (λ (at : ℕ). at ∷ drop (suc k) (take most ats)) (get_or-take most ats k 0 h)

  pub run_more : young t (get_or ats k 0) ≡ true → young_run t (drop k (take most ats)) ≡ suc (young_run t (drop (suc k) (take most ats)))
  run_more e = ap (young_run t) run_at ∙ ap (λ (b : Bool). cond b (suc (young_run t (drop (suc k) (take most ats)))) 0) e

  pub run_stop : young t (get_or ats k 0) ≡ false → young_run t (drop k (take most ats)) ≡ 0
  run_stop e = ap (young_run t) run_at ∙ ap (λ (b : Bool). cond b (suc (young_run t (drop (suc k) (take most ats)))) 0) e

pub run_end : (t : ℕ) (ats : List ℕ) (most k : ℕ) → length (take most ats) ≤ k → young_run t (drop k (take most ats)) ≡ 0
run_end t ats most k h = ap (young_run t) (drop_of_length-le (take most ats) {i = k} h)

pub run_few : (t : ℕ) (ats : List ℕ) → young_run t ats ≤ length ats
run_few t [] = omega arith
run_few t (at ∷ ats) = by_test (λ (k : ℕ). k ≤ suc (length ats)) (young t at) (λ e. let h = run_few t ats in omega arith) (λ e. omega arith)

abbrev pub AllYoung : ℕ → List ℕ → ℕ → Type 0
AllYoung t ats n = (i : ℕ) → i < n → young t (get_or ats i 0) ≡ true

pub run_young : (t m : ℕ) (ats : List ℕ) → AllYoung t ats (young_run t (take m ats))
run_young t zero ats i h = absurd (not-suc-le-zero h)
run_young t (suc m) [] i h = absurd (not-suc-le-zero h)
run_young t (suc m) (at ∷ ats) i h = go (run_young t m ats) i (young t at) refl h
  where
    go : AllYoung t ats (young_run t (take m ats)) → (i : ℕ) (r : Bool) → young t at ≡ r → i < cond r (suc (young_run t (take m ats))) 0 → young t (get_or (at ∷ ats) i 0) ≡ true
    go rest i false e h = absurd (not-suc-le-zero h)
    go rest zero true e h = e
    go rest (suc i) true e h = rest i (le_of_suc-le-suc h)
