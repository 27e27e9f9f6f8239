-- The four courses (02, request 4), computed: packets of source 7 with the text `A`, T140 98, to a receiver for which some number
-- is the newest.
use Prim.Native.Nat.{ℕ, ◌/◌, ◌%◌}
use mathlib.Core.Path.{◌≡◌, refl}
use mathlib.Core.List.{List, [], ◌∷◌}
use mathlib.Core.Bool.{true, false}
use lib.IntN.{pos, negsuc}
use Rattle.base.specs.Every.{Every}
use Rattle.packet_spec.specs.Limits.{level}
use Rattle.packet_spec.specs.Redundancy.{headers}
use Rattle.packet_spec.specs.Reading.{reading}
use Rattle.delivery.specs.Numbers.{next}
use Rattle.receiver_spec.specs.State.{Receiver, keeping}
use Rattle.receiver_spec.specs.Answers.{StepAnswer, refuses, is_late, is_jump, is_break, gives}
use Rattle.receiver_spec.specs.Step.{step_of}

-- packets in order, the answers to them, and the receiver that they leave
pub record Row : Type 0 where
  pub receiver : Receiver
  pub packets : List (List ℕ)
  pub answers : List StepAnswer
  pub left : Receiver

abbrev pub answers_to : Receiver → List (List ℕ) → List StepAnswer
answers_to r [] = []
answers_to r (p ∷ ps) = (step_of r p).answer ∷ answers_to (step_of r p).receiver ps

abbrev pub left_by : Receiver → List (List ℕ) → Receiver
left_by r [] = r
left_by r (p ∷ ps) = left_by (step_of r p).receiver ps

abbrev pub Holds : Row → Type 0
Holds row = (answers_to row.receiver row.packets ≡ row.answers) × (left_by row.receiver row.packets ≡ row.left)

-- a receiver for which a number is the newest, and none is kept
abbrev pub newest : ℕ → Receiver
newest n = record { t140 = 98; red = 100; has_source = true; source = 7; expected = next n; has_kept = false; kept = 0 }

-- a packet of this number; one of another source; and one of type RED with the older block `A`, primary `B`
abbrev pub from : ℕ → ℕ → ℕ → List ℕ → List ℕ
from kind source n payload = 0x80 ∷ kind ∷ n / 256 ∷ n % 256 ∷ 0 ∷ 0 ∷ 0 ∷ 0 ∷ 0 ∷ 0 ∷ 0 ∷ source ∷ payload

abbrev pub packet : ℕ → List ℕ
packet n = from 0x62 7 n (0x41 ∷ [])

abbrev stranger : List ℕ
stranger = from 0x62 8 6 (0x41 ∷ [])

abbrev two : ℕ → List ℕ
two n = from 0x64 7 n (0xE2 ∷ 0x04 ∷ 0xB0 ∷ 0x01 ∷ 0x62 ∷ 0x41 ∷ 0x42 ∷ [])

-- a forward packet's answer, with its loss and its distance; and a break's
abbrev forward : ℕ → ℕ → StepAnswer
forward marks d = gives (record { loss = marks; distance = pos d; older = 0; given = 1; from = 12; to = 13 })

abbrev break : StepAnswer
break = is_break (record { loss = 0; distance = pos 0; older = 0; given = 1; from = 12; to = 13 })

abbrev row : Receiver → List (List ℕ) → List StepAnswer → Receiver → Row
row r ps told left = record { receiver = r; packets = ps; answers = told; left = left }

unfoldable pub rows : List Row
rows =
    row (newest 5) (packet 5 ∷ []) (is_late (negsuc 0) ∷ []) (newest 5)
    ∷ row (newest 5) (packet 6 ∷ []) (forward 0 0 ∷ []) (newest 6)
    ∷ row (newest 5) (packet 3004 ∷ []) (forward 2998 2998 ∷ []) (newest 3004)
    ∷ row (newest 5) (packet 3005 ∷ []) (is_jump (pos 2999) ∷ []) (keeping (newest 5) 3006)
    ∷ row (newest 5) (packet 65442 ∷ []) (is_late (negsuc 99) ∷ []) (newest 5)
    ∷ row (newest 5) (packet 65441 ∷ []) (is_jump (negsuc 100) ∷ []) (keeping (newest 5) 65442)
    -- 01's T7 and T8, alone and one behind the other
    ∷ row (newest 5) (packet 32773 ∷ []) (is_jump (pos 32767) ∷ []) (keeping (newest 5) 32774)
    ∷ row (newest 5) (packet 32774 ∷ []) (is_jump (negsuc 32767) ∷ []) (keeping (newest 5) 32775)
    ∷ row (newest 5) (packet 32773 ∷ packet 32774 ∷ []) (is_jump (pos 32767) ∷ break ∷ []) (newest 32774)
    -- late and refused packets leave the number kept, and a copy of the jump keeps it again
    ∷ row (newest 5) (packet 10000 ∷ packet 5 ∷ stranger ∷ packet 10001 ∷ [])
    (is_jump (pos 9994) ∷ is_late (negsuc 0) ∷ refuses 16 ∷ break ∷ []) (newest 10001)
    ∷ row (newest 5) (packet 10000 ∷ packet 10000 ∷ packet 10001 ∷ []) (is_jump (pos 9994) ∷ is_jump (pos 9994) ∷ break ∷ []) (newest 10001)
    -- a forward packet clears it
    ∷ row (newest 5) (packet 10000 ∷ packet 6 ∷ packet 10001 ∷ [])
    (is_jump (pos 9994) ∷ forward 0 0 ∷ is_jump (pos 9994) ∷ []) (keeping (newest 6) 10002)
    ∷ row (newest 5) (packet 3005 ∷ packet 9 ∷ packet 3006 ∷ [])
    (is_jump (pos 2999) ∷ forward 3 3 ∷ forward 2996 2996 ∷ []) (newest 3006)
    -- the number kept may be late
    ∷ row (newest 5) (packet 65441 ∷ packet 65442 ∷ []) (is_jump (negsuc 100) ∷ is_late (negsuc 99) ∷ []) (keeping (newest 5) 65442)
    -- 0 is a number too
    ∷ row (newest 40000) (packet 65535 ∷ packet 0 ∷ []) (is_jump (pos 25534) ∷ break ∷ []) (newest 0)
    ∷ row (newest 40000) (packet 0 ∷ []) (is_jump (pos 25535) ∷ []) (keeping (newest 40000) 1)
    -- a break gives all blocks
    ∷ row (newest 5) (packet 10000 ∷ two 10001 ∷ [])
    (is_jump (pos 9994) ∷ is_break (record { loss = 0; distance = pos 0; older = 1; given = 2; from = 17; to = 19 }) ∷ []) (newest 10001)
    ∷ []

pub course_tests : Every Holds rows
unfolding rows step_of reading headers level
course_tests =
    ((refl, refl), ((refl, refl), ((refl, refl), ((refl, refl), ((refl, refl), ((refl, refl), ((refl, refl), ((refl, refl), ((refl, refl), ((refl, refl), ((refl, refl), ((refl, refl), ((refl, refl), ((refl, refl), ((refl, refl), ((refl, refl), ((refl, refl), tt)))))))))))))))))
