-- Checks in order: the first that applies decides, whatever is made of its number.
use Prim.Native.Nat.{ℕ, ◌≤◌}
use mathlib.Core.Path.{◌≡◌, ◌∙◌, refl, ap, ap₂}
use mathlib.Core.List.{List, [], ◌∷◌}
use mathlib.Core.Bool.{Bool, true, false, cond}
use native.Mathlib.Omega.{arith}
use Rattle.base.specs.Checks.{Check, checked, number_by}

-- every number is a refusal's
abbrev pub Positive : List Check → Type 0
Positive [] = Unit {0}
Positive (c ∷ cs) = (1 ≤ c.number) × Positive cs

abbrev pub NoneApplies : List Check → Type 0
NoneApplies [] = Unit {0}
NoneApplies (c ∷ cs) = (c.applies ≡ false) × NoneApplies cs

-- a function of what checks make
pub checked_of : {A B : Type 0} (h : A → B) (refuse : ℕ → A) (cs : List Check) (x : A) → h (checked refuse cs x) ≡ checked (λ n. h (refuse n)) cs (h x)
checked_of h refuse [] x = refl
checked_of {A} {B} h refuse (c ∷ cs) x = go c.applies (checked_of h refuse cs x)
  where
    go : (b : Bool) → h (checked refuse cs x) ≡ checked (λ n. h (refuse n)) cs (h x)
        → h (cond b (refuse c.number) (checked refuse cs x)) ≡ cond b (h (refuse c.number)) (checked (λ n. h (refuse n)) cs (h x))
    go true e = refl
    go false e = e

-- where what is made of a number still tells it
pub number_first : {A : Type 0} (number : A → ℕ) (refuse : ℕ → A) (cs : List Check) (x : A) → ((n : ℕ) → number (refuse n) ≡ n) → number x ≡ 0
    → number (checked refuse cs x) ≡ number_by cs
number_first number refuse cs x f e = checked_of number refuse cs x ∙ ap₂ {C = ℕ} (λ (g : ℕ → ℕ) (n : ℕ). checked g cs n) (λ i n. f n i) e

pub refused_by_lem : {A : Type 0} (refuse : ℕ → A) (cs : List Check) (x : A) (n : ℕ) → 1 ≤ n → number_by cs ≡ n → checked refuse cs x ≡ refuse n
refused_by_lem refuse [] x n k e = absurd (omega arith)
refused_by_lem {A} refuse (c ∷ cs) x n k e = go c.applies (refused_by_lem refuse cs x n k) e
  where
    go : (b : Bool) → (number_by cs ≡ n → checked refuse cs x ≡ refuse n) → cond b c.number (number_by cs) ≡ n → cond b (refuse c.number) (checked refuse cs x) ≡ refuse n
    go true f e = ap refuse e
    go false f e = f e

pub passed_by : {A : Type 0} (refuse : ℕ → A) (cs : List Check) (x : A) → Positive cs → number_by cs ≡ 0 → checked refuse cs x ≡ x
passed_by refuse [] x h e = refl
passed_by {A} refuse (c ∷ cs) x h e = go c.applies (passed_by refuse cs x h.1) e
  where
    go : (b : Bool) → (number_by cs ≡ 0 → checked refuse cs x ≡ x) → cond b c.number (number_by cs) ≡ 0 → cond b (refuse c.number) (checked refuse cs x) ≡ x
    go true f e = absurd (omega (arith, h.0))
    go false f e = f e

pub none_applies : (cs : List Check) → Positive cs → number_by cs ≡ 0 → NoneApplies cs
none_applies [] h e = tt
none_applies (c ∷ cs) h e = go c.applies refl e (none_applies cs h.1)
  where
    go : (b : Bool) → c.applies ≡ b → cond b c.number (number_by cs) ≡ 0 → (number_by cs ≡ 0 → NoneApplies cs) → NoneApplies (c ∷ cs)
    go true q e f = absurd (omega (arith, h.0))
    go false q e f = (q, f e)
