-- Ages of older blocks (02, request 2), computed: packets of sequence number 6 and source 7, type RED 100 over T140 98.
-- Needs level 4.
use Prim.Native.Nat.{ℕ, zero, suc, ◌*◌, ◌/◌, ◌%◌}
use mathlib.Core.Path.{◌≡◌, refl}
use mathlib.Core.List.{List, [], ◌∷◌}
use mathlib.Core.Bool.{true, false}
use Rattle.packet_spec.specs.Limits.{level}
use Rattle.packet_spec.specs.Redundancy.{headers, offsets}
use Rattle.packet_spec.specs.Reading.{Read, holds, refused, reading}
use Rattle.receiver_spec.specs.State.{Receiver, fresh_receiver, read_by}
use Rattle.receiver_spec.specs.Answers.{is_accepted, refuses}
use Rattle.receiver_spec.specs.Step.{step_of}

-- what is told of a packet: the ages of its older blocks, or its refusal
pub data Told : Type 0 where
  ages : List ℕ → Told
  number : ℕ → Told

abbrev pub told_of : Read → Told
told_of (holds c) = ages (offsets c.older)
told_of (refused n) = number n

pub record Row : Type 0 where
  pub receiver : Receiver
  pub packet : List ℕ
  pub told : Told

-- an accepted packet is stepped over; a refused one leaves the receiver
abbrev pub Stepped : Receiver → List ℕ → Told → Type 0
Stepped r p (ages ns) = is_accepted (step_of r p).answer ≡ true
Stepped r p (number n) = step_of r p ≡ record { receiver = r; answer = refuses n }

abbrev pub Holds : List Row → Type 0
Holds [] = Unit {0}
Holds (row ∷ rows) = (told_of (read_by row.receiver row.packet) ≡ row.told) × Stepped row.receiver row.packet row.told × Holds rows

-- a receiver that has this source, and expects number 6
abbrev of : ℕ → Receiver
of source = record { t140 = 98; red = 100; has_source = true; source = source; expected = 6; has_kept = false; kept = 0 }

abbrev pub fresh : Receiver
fresh = fresh_receiver 98 100

-- the fixed header
abbrev pub packet : List ℕ → List ℕ
packet payload = 0x80 ∷ 0x64 ∷ 0x00 ∷ 0x06 ∷ 0x00 ∷ 0x00 ∷ 0x00 ∷ 0x00 ∷ 0x00 ∷ 0x00 ∷ 0x00 ∷ 0x07 ∷ payload

-- the header of an older block of one byte and this age, and what lies behind it
abbrev pub aged : ℕ → List ℕ → List ℕ
aged n s = 0xE2 ∷ n / 64 ∷ n % 64 * 4 ∷ 0x01 ∷ s

-- so many of them
abbrev all_aged : ℕ → ℕ → List ℕ → List ℕ
all_aged n zero s = s
all_aged n (suc k) s = aged n (all_aged n k s)

-- the primary's header, and blocks
abbrev pub blocks : List ℕ → List ℕ
blocks s = 0x62 ∷ s

abbrev letters : List ℕ
letters = blocks (0x41 ∷ 0x42 ∷ 0x43 ∷ 0x44 ∷ 0x45 ∷ [])

abbrev pub row : Receiver → List ℕ → Told → Row
row r payload t = record { receiver = r; packet = packet payload; told = t }

unfoldable pub rows : List Row
rows =
    row fresh (aged 1 letters) (ages (1 ∷ []))
    ∷ row fresh (aged 600 (aged 300 letters)) (ages (600 ∷ 300 ∷ []))
    ∷ row fresh (aged 4 (aged 3 (aged 2 (aged 1 letters)))) (ages (4 ∷ 3 ∷ 2 ∷ 1 ∷ []))
    ∷ row (of 7) (aged 16383 letters) (ages (16383 ∷ []))
    -- not above the primary's, which is 0
    ∷ row fresh (aged 0 letters) (number 22)
    ∷ row (of 7) (aged 600 (aged 0 letters)) (number 22)
    -- equal, or rising
    ∷ row fresh (aged 300 (aged 300 letters)) (number 22)
    ∷ row (of 7) (aged 300 (aged 600 letters)) (number 22)
    ∷ row fresh (aged 4 (aged 3 (aged 3 (aged 1 letters)))) (number 22)
    ∷ row fresh (aged 2 (aged 3 (aged 1 letters))) (number 22)
    -- equal, and: two blocks of one byte in one byte; a block that is not text; a header too many; another source
    ∷ row fresh (aged 300 (aged 300 (blocks (0x41 ∷ [])))) (number 20)
    ∷ row fresh (aged 300 (aged 300 (blocks (0xFF ∷ 0x42 ∷ [])))) (number 22)
    ∷ row fresh (all_aged 3 (suc level) letters) (number 18)
    ∷ row (of 8) (aged 300 (aged 300 letters)) (number 16)
    ∷ []

pub age_tests : Holds rows
unfolding rows step_of reading headers level
age_tests = (refl, refl, (refl, refl, (refl, refl, (refl, refl, (refl, refl, (refl, refl, (refl, refl, (refl, refl, (refl, refl, (refl, refl, (refl, refl, (refl, refl, (refl, refl, (refl, refl, tt))))))))))))))
