-- Request 6 (02), computed: packets with seven older blocks, and what stands at the eighth header.
-- Needs level 7.
use Prim.Native.Nat.{ℕ}
use mathlib.Core.Path.{◌≡◌, refl}
use mathlib.Core.List.{List, [], ◌∷◌}
use mathlib.Core.Bool.{true, false}
use lib.IntN.{pos}
use Rattle.packet_spec.specs.Limits.{level}
use Rattle.packet_spec.specs.Redundancy.{headers}
use Rattle.packet_spec.specs.Reading.{reading}
use Rattle.receiver_spec.specs.Answers.{StepAnswer, gives}
use Rattle.receiver_spec.specs.Step.{step_of}
use Rattle.receiver_spec.proofs.AgeTests.{Row, Holds, ages, number, fresh, packet, aged, blocks, row}

-- seven headers, and what lies behind them
abbrev seven : List ℕ → List ℕ
seven s = aged 7 (aged 6 (aged 5 (aged 4 (aged 3 (aged 2 (aged 1 s))))))

abbrev letters : List ℕ
letters = blocks (0x41 ∷ 0x42 ∷ 0x43 ∷ 0x44 ∷ 0x45 ∷ 0x46 ∷ 0x47 ∷ 0x48 ∷ [])

unfoldable pub rows : List Row
rows =
    row fresh (seven letters) (ages (7 ∷ 6 ∷ 5 ∷ 4 ∷ 3 ∷ 2 ∷ 1 ∷ []))
    ∷ row fresh (seven []) (number 17)
    -- 18 by the first bit alone: also with one byte left, and of another type
    ∷ row fresh (seven (0xE2 ∷ [])) (number 18)
    ∷ row fresh (seven (0xE1 ∷ 0x00 ∷ 0x00 ∷ 0x00 ∷ [])) (number 18)
    ∷ row fresh (aged 8 (seven letters)) (number 18)
    ∷ row fresh (seven (0x61 ∷ [])) (number 19)
    ∷ []

pub seven_tests : Holds rows
unfolding rows step_of reading headers level
seven_tests = (refl, refl, (refl, refl, (refl, refl, (refl, refl, (refl, refl, (refl, refl, tt))))))

-- a packet with seven older blocks repairs a loss of seven; of eight lost it leaves one

-- what packet 6 gives where this number is expected
abbrev given : ℕ → StepAnswer
given n =
    (step_of (record { t140 = 98; red = 100; has_source = true; source = 7; expected = n; has_kept = false; kept = 0 }) (packet (seven letters))).answer

pub seven_repaired : given 65535 ≡ gives (record { loss = 0; distance = pos 7; older = 7; given = 8; from = 41; to = 49 })
unfolding step_of reading headers level
seven_repaired = refl

pub eighth_lost : given 65534 ≡ gives (record { loss = 1; distance = pos 8; older = 7; given = 8; from = 41; to = 49 })
unfolding step_of reading headers level
eighth_lost = refl
