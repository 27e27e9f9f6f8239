-- Where a reader gets, by the tests that lead there.
use Prim.Native.Nat.{ℕ, ◌-◌, ◌<◌, ◌≤◌}
use mathlib.Core.Path.{◌≡◌, ◌∙◌, refl, ap, sym}
use mathlib.Core.List.{[], ◌∷◌}
use mathlib.Core.Bool.{Bool, true, false}
use mathlib.Core.Logic.{⊎_elim}
use native.Mathlib.Omega.{arith}
use types.Run.{OneOf}
use denote.Enum.Declared as Declared
use lib.Dec.{ltb}
use borrow.Author.Tests.{lt-ltb, le-ltb, ne_eqb}
use Rattle.journal_spec.specs.Contents.{longest_packet}
use Rattle.parts.specs.contracts.Part.{the_type}
use Rattle.parts.specs.declared.Part.{Part}
use Rattle.parts.specs.declared.Part.TheVariants.{Kind, Types, Red, Length, Low, Piece, Time, Opened, Packet, Ended, Broken}
use Rattle.reading.specs.declared.Reader.{Reader}
use Rattle.reading.specs.Reading.{outside, with, broken}
use Rattle.reading.specs.Internal.Bytes.{begun_by, reader_byte, byte_of, time_of, past_at, past_of}

module _ (r : Reader) (n : ℕ) where
  pub too_long : ltb longest_packet n ≡ true → broken r ≡ begun_by r n
  too_long h = rw h

  pub empty_packet : ltb longest_packet n ≡ false → n ≡ 0 → outside r.opened Packet ≡ begun_by r n
  empty_packet h z = rw z

  pub some_packet : ltb longest_packet n ≡ false → (n ≡ 0 → ⊥) → record { opened = r.opened; part = Kind; size = n; at = 0 } ≡ begun_by r n
  some_packet h z = rw (h, ne_eqb n 0 z)

  pub time_under_way : (m : ℕ) → m < n → with r (Time (n - m)) r.at ≡ time_of r n m
  time_under_way m h = rw (lt-ltb m n h)

  pub time_past : (m : ℕ) → n ≤ m → with r Kind r.at ≡ time_of r n m
  time_past m h = rw (le-ltb m n h)

-- a byte, by the part that it falls on
pub by_part : (r : Reader) (b : ℕ) (q : Part) (r' : Reader) → r.part ≡ q → r' ≡ reader_byte q r b → r' ≡ byte_of r b
by_part r b q r' e h = h ∙ ap (λ (x : Part). reader_byte x r b) (sym e)

not_other : (n : ℕ) → OneOf (0 ∷ 5 ∷ 6 ∷ 7 ∷ 8 ∷ 9 ∷ 10 ∷ []) n → (0 < n) × (n ≤ 4) → ⊥
not_other n h k =
    ⊎_elim (λ e. omega arith) (⊎_elim (λ e. omega arith) (⊎_elim (λ e. omega arith) (⊎_elim (λ e. omega arith) (⊎_elim (λ e. omega arith) (⊎_elim (λ e. omega arith) (λ e. omega arith)))))) h

-- the parts on which no such byte falls
pub other : (q : Part) (r : Reader) (b : ℕ) → OneOf (0 ∷ 5 ∷ 6 ∷ 7 ∷ 8 ∷ 9 ∷ 10 ∷ []) (Declared.tag_of the_type q) → r ≡ reader_byte q r b
other Kind r b h = refl
other Types r b h = absurd (not_other 1 h (omega arith, omega arith))
other (Red t140) r b h = absurd (not_other 2 h (omega arith, omega arith))
other Length r b h = absurd (not_other 3 h (omega arith, omega arith))
other (Low high) r b h = absurd (not_other 4 h (omega arith, omega arith))
other (Piece n) r b h = refl
other (Time n) r b h = refl
other (Opened t140 red) r b h = refl
other Packet r b h = refl
other Ended r b h = refl
other Broken r b h = refl

pub past_by : (r : Reader) (q : Part) (r' : Reader) → r.part ≡ q → r' ≡ past_at q r.opened → r' ≡ past_of r
past_by r q r' e h = h ∙ ap (λ (x : Part). past_at x r.opened) (sym e)

not_past : (n : ℕ) → OneOf (0 ∷ 1 ∷ 2 ∷ 3 ∷ 4 ∷ 5 ∷ 6 ∷ 9 ∷ 10 ∷ []) n → (6 < n) × (n < 9) → ⊥
not_past n h k =
    ⊎_elim (λ e. omega arith) (⊎_elim (λ e. omega arith) (⊎_elim (λ e. omega arith) (⊎_elim (λ e. omega arith) (⊎_elim (λ e. omega arith) (⊎_elim (λ e. omega arith)
    (⊎_elim (λ e. omega arith) (⊎_elim (λ e. omega arith) (λ e. omega arith)))))))) h

pub stays_there : (q : Part) (o : Bool) → OneOf (0 ∷ 1 ∷ 2 ∷ 3 ∷ 4 ∷ 5 ∷ 6 ∷ 9 ∷ 10 ∷ []) (Declared.tag_of the_type q) → outside o q ≡ past_at q o
stays_there Kind o h = refl
stays_there Types o h = refl
stays_there (Red t140) o h = refl
stays_there Length o h = refl
stays_there (Low high) o h = refl
stays_there (Piece n) o h = refl
stays_there (Time n) o h = refl
stays_there (Opened t140 red) o h = absurd (not_past 7 h (omega arith, omega arith))
stays_there Packet o h = absurd (not_past 8 h (omega arith, omega arith))
stays_there Ended o h = refl
stays_there Broken o h = refl
