-- A flag in a byte, and the byte of a flag.
use Rattle.std.specs.Prelude.{ℕ, Bool, true, false, not, eqb}

-- 0 is false, and all else true
abbrev pub is_set : ℕ → Bool
is_set b = not (eqb b 0)

abbrev pub bit : Bool → ℕ
bit true = 1
bit false = 0
