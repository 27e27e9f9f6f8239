-- Checks in order: "Given when, and only when no earlier check in its order applies" (01, "Refusal numbers").
use Rattle.std.specs.Prelude.{ℕ, List, [], ◌∷◌, Bool, cond}

-- a check, and the number of its refusal
pub record Check : Type 0 where
  pub applies : Bool
  pub number : ℕ

infixl 68 ◌gives◌
abbrev pub ◌gives◌ : Bool → ℕ → Check
b gives n = record { applies = b; number = n }

-- what the first check that applies makes of its number; where none applies, the last argument
abbrev pub checked : {A : Type 0} → (ℕ → A) → List Check → A → A
checked refuse [] passed = passed
checked refuse (c ∷ cs) passed = cond c.applies (refuse c.number) (checked refuse cs passed)

-- the number of the first that applies; 0, which is no refusal's, where none does
abbrev pub number_by : List Check → ℕ
number_by cs = checked (λ n. n) cs 0
