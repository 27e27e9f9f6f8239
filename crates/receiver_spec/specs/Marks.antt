-- The loss-mark writer: whole marks EF BF BD from the start, the smaller of the count and a third of the space.
use Rattle.std.specs.Prelude.{ℕ, zero, suc, ◌/◌, min, List, [], ◌∷◌, ◌++◌, length}
use Rattle.base.specs.Arrays.{over}

-- the bytes of LossMark::BYTES
abbrev pub mark_bytes : List ℕ
mark_bytes = 0xEF ∷ 0xBF ∷ 0xBD ∷ []

abbrev pub marks : ℕ → List ℕ
marks zero = []
marks (suc n) = mark_bytes ++ marks n

abbrev pub marks_written : ℕ → List ℕ → ℕ
marks_written count space = min count (length space / length mark_bytes)

abbrev pub marks_over : ℕ → List ℕ → List ℕ
marks_over count space = over (marks (marks_written count space)) space
