-- What a call of the reader answers.
use Rattle.std.specs.Prelude.{ℕ, ◌≤◌, ◌≡◌, List, Bool, true, false, length, drop}
use Rattle.parts.specs.Bytes.{read_to, unread}
use Rattle.reading.specs.declared.Reader.{Reader}
use Rattle.reading.specs.Reading.{reading_of, sound, reader_ready}

-- All of s was given to r with the lent p, and used as far as reading goes: r' and p' hold the reading, so many bytes were used,
-- and behind the pieces p stays as it was.
pub record ReadAll (r : Reader) (p s : List ℕ) (r' : Reader) (p' : List ℕ) (used : ℕ) : Type 0 where
  pub still : sound r' ≡ true
  pub within : used ≤ length s
  pub reads : reading_of r' p' ≡ read_to (reading_of r p) s
  pub leaves : drop used s ≡ unread (reading_of r p) s
  pub keeps : drop r'.at p' ≡ drop r'.at p

-- r cannot go on, or p is too short: nothing is done
pub record ReaderStays (r : Reader) (p : List ℕ) (r' : Reader) (p' : List ℕ) (used : ℕ) : Type 0 where
  pub reader : r' ≡ r
  pub packet : p' ≡ p
  pub none : used ≡ 0

abbrev pub ReadIf : Bool → Reader → List ℕ → List ℕ → Reader → List ℕ → ℕ → Type 0
ReadIf true r p s r' p' used = ReadAll r p s r' p' used
ReadIf false r p s r' p' used = ReaderStays r p r' p' used

-- what `read` answers
abbrev pub RecordsRead : Reader → List ℕ → List ℕ → Reader → List ℕ → ℕ → Type 0
RecordsRead r p s r' p' used = ReadIf (reader_ready r (length p)) r p s r' p' used
