-- The loss-mark writer at some counts and spaces, computed.
use Prim.Native.Nat.{ℕ}
use mathlib.Core.Path.{◌≡◌, refl}
use mathlib.Core.List.{List, [], ◌∷◌}
use Rattle.receiver_spec.specs.Marks.{marks_written, marks_over}

pub record Row : Type 0 where
  pub count : ℕ
  pub space : List ℕ
  pub written : ℕ
  pub after : List ℕ

abbrev pub Holds : List Row → Type 0
Holds [] = Unit {0}
Holds (r ∷ rs) = (marks_written r.count r.space ≡ r.written) × (marks_over r.count r.space ≡ r.after) × Holds rs

abbrev pub row : ℕ → List ℕ → ℕ → List ℕ → Row
row c s w a = record { count = c; space = s; written = w; after = a }

-- no space, less than a mark, the count, a third of the space rounded down
unfoldable pub rows : List Row
rows =
    row 5 [] 0 []
    ∷ row 5 (1 ∷ 2 ∷ []) 0 (1 ∷ 2 ∷ [])
    ∷ row 0 (1 ∷ 2 ∷ 3 ∷ []) 0 (1 ∷ 2 ∷ 3 ∷ [])
    ∷ row 1 (1 ∷ 2 ∷ 3 ∷ 4 ∷ 5 ∷ 6 ∷ 7 ∷ []) 1 (0xEF ∷ 0xBF ∷ 0xBD ∷ 4 ∷ 5 ∷ 6 ∷ 7 ∷ [])
    ∷ row 32767 (1 ∷ 2 ∷ 3 ∷ 4 ∷ 5 ∷ 6 ∷ 7 ∷ 8 ∷ []) 2 (0xEF ∷ 0xBF ∷ 0xBD ∷ 0xEF ∷ 0xBF ∷ 0xBD ∷ 7 ∷ 8 ∷ [])
    ∷ []

pub mark_tests : Holds rows
unfolding rows
mark_tests = (refl, refl, (refl, refl, (refl, refl, (refl, refl, (refl, refl, tt)))))
