-- Parts in a row, the last of them first.
use Rattle.std.specs.Prelude.{ℕ, zero, suc, List, ◌++◌}

-- what f gives for each number below n, from the last to the first, and x behind
unfoldable pub last_first : (ℕ → List ℕ) → List ℕ → ℕ → List ℕ
last_first f x zero = x
last_first f x (suc n) = f n ++ last_first f x n
