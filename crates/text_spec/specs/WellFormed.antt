-- Well-formed text, letter by letter: what the definition of text answers, said without a walk over bytes.
use Rattle.std.specs.Prelude.{ℕ, suc, ◌≡◌, true}
use mathlib.Core.List.{List, [], ◌∷◌, ◌++◌, Memᴰ}
use Rattle.text_spec.specs.Utf8.{Range, Row, rows, within}

-- Bytes that lie in ranges, one in each.
pub data Matches : List Range → List ℕ → Type 0 where
  end : Matches [] []
  byte : {r : Range} {rs : List Range} {b : ℕ} {bs : List ℕ} → within r b ≡ true → Matches rs bs → Matches (r ∷ rs) (b ∷ bs)

-- The bytes of one letter: those of a row of the table.
pub record Letter (l : List ℕ) : Type 0 where
  pub by : Row
  pub listed : Memᴰ by rows
  pub bytes : Matches (by.first ∷ by.rest) l

-- A text of so many letters.
pub data Letters : ℕ → List ℕ → Type 0 where
  empty : Letters 0 []
  more : {n : ℕ} {l s : List ℕ} → Letter l → Letters n s → Letters (suc n) (l ++ s)
