-- Laws of parts from which reading can go on.
use Prim.Native.Nat.{ℕ, ◌+◌, ◌%◌, ◌≤◌, ◌<◌}
use mathlib.Core.Path.{◌≡◌, refl, sym}
use mathlib.Core.List.{[], ◌∷◌}
use mathlib.Core.Bool.{Bool, true, false, ◌&&◌}
use mathlib.Core.Logic.{⊎_elim}
use native.Mathlib.Omega.{arith}
use types.Run.{OneOf}
use denote.Enum.Declared as Declared
use borrow.Author.Tests.{leb-true, eqb-true, le-leb, lt-leb, eq-eqb}
use lib.Dec.{leb}
use Rattle.base.proofs.Tests.{and_false, and_left, and_right, both}
use Rattle.journal_spec.specs.Records.{piece_length}
use Rattle.journal_spec.specs.Contents.{longest_packet}
use Rattle.parts.specs.contracts.Part.{the_type}
use Rattle.parts.specs.declared.Part.{Part}
use Rattle.parts.specs.declared.Part.TheVariants.{Kind, Types, Red, Length, Low, Piece, Time, Opened, Packet, Ended, Broken}
use Rattle.parts.specs.Bytes.{going}
use Rattle.parts.specs.Sound.{whole_pieces, sound_at, sound_part}

pub whole : (n : ℕ) → n ≤ longest_packet → n % piece_length ≡ 0 → whole_pieces n ≡ true
whole n h e = both (le-leb n longest_packet h) (eq-eqb (n % piece_length) 0 e)

pub whole_is : (n : ℕ) → whole_pieces n ≡ true → (n ≤ longest_packet) × (n % piece_length ≡ 0)
whole_is n h = (leb-true n longest_packet (and_left (leb n longest_packet) _ h), eqb-true (n % piece_length) 0 (and_right (leb n longest_packet) _ h))

pub not_under_way : (n at : ℕ) → longest_packet < at + n → false ≡ (leb 1 n && whole_pieces (at + n))
not_under_way n at h = rw (lt-leb (at + n) longest_packet h) (sym (and_false (leb 1 n)))

module _ (q : Part) (size at : ℕ) where
  pub too_large : longest_packet < size → false ≡ sound_part q size at
  too_large h = rw (lt-leb size longest_packet h)

  -- a test by the part
  pub sound_by : (q' : Part) (b : Bool) → size ≤ longest_packet → q ≡ q' → b ≡ sound_at q' size at → b ≡ sound_part q size at
  sound_by q' b h e i = rw (le-leb size longest_packet h, e) i

no : (n : ℕ) → OneOf (0 ∷ 1 ∷ 2 ∷ 3 ∷ 4 ∷ 7 ∷ 9 ∷ 10 ∷ []) n → (n ≡ 5 → ⊥) × (n ≡ 6 → ⊥) × (n ≡ 8 → ⊥)
no n h = (λ e. one 5 h e (omega arith), λ e. one 6 h e (omega arith), λ e. one 8 h e (omega arith))
  where
    one : (k : ℕ) → OneOf (0 ∷ 1 ∷ 2 ∷ 3 ∷ 4 ∷ 7 ∷ 9 ∷ 10 ∷ []) n → n ≡ k → (4 < k) × (k < 9) × (k ≡ 7 → ⊥) → ⊥
    one k i e f =
        ⊎_elim (λ a. omega arith) (⊎_elim (λ a. omega arith) (⊎_elim (λ a. omega arith) (⊎_elim (λ a. omega arith) (⊎_elim (λ a. omega arith)
        (⊎_elim (λ a. f.2 (omega arith)) (⊎_elim (λ a. omega arith) (λ a. omega arith))))))) i

-- the parts of which only the place is tested
pub plain : (q : Part) (size at : ℕ) → OneOf (0 ∷ 1 ∷ 2 ∷ 3 ∷ 4 ∷ 7 ∷ 9 ∷ 10 ∷ []) (Declared.tag_of the_type q) → sound_at q size at ≡ whole_pieces at
plain Kind size at h = refl
plain Types size at h = refl
plain (Red t140) size at h = refl
plain Length size at h = refl
plain (Low high) size at h = refl
plain (Piece n) size at h = absurd ((no 5 h).0 refl)
plain (Time n) size at h = absurd ((no 6 h).1 refl)
plain (Opened t140 red) size at h = refl
plain Packet size at h = absurd ((no 8 h).2 refl)
plain Ended size at h = refl
plain Broken size at h = refl

not_stop : (n : ℕ) → OneOf (7 ∷ 8 ∷ 9 ∷ 10 ∷ []) n → n < 7 → ⊥
not_stop n h k = ⊎_elim (λ e. omega arith) (⊎_elim (λ e. omega arith) (⊎_elim (λ e. omega arith) (λ e. omega arith))) h

-- the parts at which reading stops
pub stopped : (q : Part) → OneOf (7 ∷ 8 ∷ 9 ∷ 10 ∷ []) (Declared.tag_of the_type q) → going q ≡ false
stopped Kind h = absurd (not_stop 0 h (omega arith))
stopped Types h = absurd (not_stop 1 h (omega arith))
stopped (Red t140) h = absurd (not_stop 2 h (omega arith))
stopped Length h = absurd (not_stop 3 h (omega arith))
stopped (Low high) h = absurd (not_stop 4 h (omega arith))
stopped (Piece n) h = absurd (not_stop 5 h (omega arith))
stopped (Time n) h = absurd (not_stop 6 h (omega arith))
stopped (Opened t140 red) h = refl
stopped Packet h = refl
stopped Ended h = refl
stopped Broken h = refl

-- and those from which it goes on
pub goes : (q : Part) → ((t140 red : ℕ) → q ≡ Opened t140 red → ⊥) → (q ≡ Packet → ⊥) → (q ≡ Ended → ⊥) → (q ≡ Broken → ⊥) → going q ≡ true
goes Kind o p e b = refl
goes Types o p e b = refl
goes (Red t140) o p e b = refl
goes Length o p e b = refl
goes (Low high) o p e b = refl
goes (Piece n) o p e b = refl
goes (Time n) o p e b = refl
goes (Opened t140 red) o p e b = absurd (o t140 red refl)
goes Packet o p e b = absurd (p refl)
goes Ended o p e b = absurd (e refl)
goes Broken o p e b = absurd (b refl)

-- the pieces' bytes fit into the buffer
pub place : (q : Part) (size at : ℕ) → sound_at q size at ≡ true → at ≤ longest_packet
place Kind size at h = (whole_is at h).0
place Types size at h = (whole_is at h).0
place (Red t140) size at h = (whole_is at h).0
place Length size at h = (whole_is at h).0
place (Low high) size at h = (whole_is at h).0
place (Piece n) size at h = omega (arith, (whole_is (at + n) (and_right (leb 1 n) _ h)).0)
place (Time n) size at h = (whole_is at (and_right (leb 1 n) _ h)).0
place (Opened t140 red) size at h = (whole_is at h).0
place Packet size at h = (whole_is at (and_right (leb size at) _ h)).0
place Ended size at h = (whole_is at h).0
place Broken size at h = (whole_is at h).0
