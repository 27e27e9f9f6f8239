-- Well-formed text: UTF-8 (RFC 3629, section 4), by 01's table of byte ranges.
use Rattle.std.specs.Prelude.{ℕ, ◌+◌, List, [], ◌∷◌, Bool, true, false, cond, ◌&&◌, leb}
use Rattle.std.proofs.Math.Option.{Option, none, some}

pub record Range : Type 0 where
  pub low : ℕ
  pub high : ℕ

infixl 80 ◌to◌
abbrev pub ◌to◌ : ℕ → ℕ → Range
a to b = record { low = a; high = b }

abbrev pub within : Range → ℕ → Bool
within r b = leb r.low b && leb b r.high

abbrev pub tail : Range
tail = 0x80 to 0xBF

-- A letter's first byte, and the bytes that follow it.
pub record Row : Type 0 where
  pub first : Range
  pub rest : List Range

abbrev pub row : Range → List Range → Row
row a b = record { first = a; rest = b }

abbrev pub rows : List Row
rows =
    row (0x00 to 0x7F) []
    ∷ row (0xC2 to 0xDF) (tail ∷ [])
    ∷ row (0xE0 to 0xE0) (0xA0 to 0xBF ∷ tail ∷ [])
    ∷ row (0xE1 to 0xEC) (tail ∷ tail ∷ [])
    ∷ row (0xED to 0xED) (0x80 to 0x9F ∷ tail ∷ [])
    ∷ row (0xEE to 0xEF) (tail ∷ tail ∷ [])
    ∷ row (0xF0 to 0xF0) (0x90 to 0xBF ∷ tail ∷ tail ∷ [])
    ∷ row (0xF1 to 0xF3) (tail ∷ tail ∷ tail ∷ [])
    ∷ row (0xF4 to 0xF4) (0x80 to 0x8F ∷ tail ∷ tail ∷ [])
    ∷ []

-- The rest of the letter that a byte begins, by the row that it belongs to.
abbrev pub begun : List Row → ℕ → Option (List Range)
begun [] b = none
begun (r ∷ rs) b = cond (within r.first b) (some r.rest) (begun rs b)

-- What a text still owes after one more byte: a letter that has begun goes on, else one begins.
abbrev pub owed_after : List Range → ℕ → Option (List Range)
owed_after [] b = begun rows b
owed_after (r ∷ rs) b = cond (within r b) (some rs) none

-- What bytes are as text: so many characters, or the place of the first byte at which they can no longer be well formed (their
-- end, where they stop inside a letter).
pub data Text : Type 0 where
  Characters : ℕ → Text
  Stops : ℕ → Text

abbrev pub begins : List Range → ℕ
begins [] = 1
begins (r ∷ rs) = 0

abbrev pub stopped : List Range → ℕ → ℕ → Text
stopped [] n at = Characters n
stopped (r ∷ rs) n at = Stops at

abbrev pub if_owed : {A : Type 0} → Option (List Range) → (List Range → A) → A → A
if_owed none f a = a
if_owed (some rs) f a = f rs

-- The text from a place on, with n letters begun before it, of which the last still owes bytes in these ranges.
abbrev pub text_from : List Range → ℕ → ℕ → List ℕ → Text
text_from owed n at [] = stopped owed n at
text_from owed n at (b ∷ bs) = if_owed (owed_after owed b) (λ rest. text_from rest (n + begins owed) (at + 1) bs) (Stops at)

abbrev pub text_of : List ℕ → Text
text_of s = text_from [] 0 0 s

abbrev pub well_formed : Text → Bool
well_formed (Characters n) = true
well_formed (Stops at) = false

abbrev pub is_text : List ℕ → Bool
is_text s = well_formed (text_of s)
