-- Request 6 (02), computed: a sender that repeats seven full blocks.
-- Needs level 7.
use Prim.Native.Nat.{ℕ, zero, suc, ◌*◌}
use mathlib.Core.Path.{refl}
use mathlib.Core.List.{List, [], ◌∷◌}
use Rattle.packet_spec.specs.Limits.{level}
use Rattle.packet_spec.specs.Redundancy.{Block, headers}
use Rattle.packet_spec.specs.Reading.{reading}
use Rattle.sender_spec.specs.Settings.{settings_number}
use Rattle.sender_spec.specs.State.{Sender}
use Rattle.sender_spec.specs.Calls.{open_sender, offer_of, clock_of}
use Rattle.sender_spec.proofs.Tables.{offer, clock_in, clock, accepted, refused, sent, ◌answers◌, Case, from, CasesHold, M, no_m, ago, holding}

-- at rate 100
abbrev seven : Sender
seven = (open_sender (record { level = 7; buffering = 300; rate = 100; t140 = 98; red = 100; sequence = 65530; timestamp = 1000; source = 7 })).sender

-- so many times the letter U+00E5
abbrev letters : ℕ → List ℕ
letters zero = []
letters (suc n) = 0xC3 ∷ 0xA5 ∷ letters n

-- a full room
abbrev W : List ℕ
W = letters 80

-- the last blocks sent, one every 300 ms
abbrev last : ℕ → List Block
last zero = []
last (suc n) = ago (300 * suc n) W ∷ last n

unfoldable pub full_blocks : Case
full_blocks =
    from seven (
    offer 0 W answers accepted
    ∷ clock 0 answers sent 173 (holding M 65530 1000 [] W)
    ∷ offer 300 W answers accepted
    ∷ clock 300 answers sent 337 (holding no_m 65531 1300 (last 1) W)
    ∷ offer 600 W answers accepted
    ∷ clock 600 answers sent 501 (holding no_m 65532 1600 (last 2) W)
    ∷ offer 900 W answers accepted
    ∷ clock 900 answers sent 665 (holding no_m 65533 1900 (last 3) W)
    ∷ offer 1200 W answers accepted
    ∷ clock 1200 answers sent 829 (holding no_m 65534 2200 (last 4) W)
    ∷ offer 1500 W answers accepted
    ∷ clock 1500 answers sent 993 (holding no_m 65535 2500 (last 5) W)
    ∷ offer 1800 W answers accepted
    ∷ clock 1800 answers sent 1157 (holding no_m 0 2800 (last 6) W)
    ∷ offer 2100 W answers accepted
    ∷ clock_in 2100 1320 answers refused 8
    ∷ clock_in 2100 1321 answers sent 1321 (holding no_m 1 3100 (last 7) W)
    ∷ clock 2400 answers sent 1161 (holding no_m 2 3400 (last 7) [])
    ∷ []
    )

pub seven_tests : CasesHold (full_blocks ∷ [])
unfolding full_blocks open_sender offer_of clock_of settings_number reading headers level
seven_tests = (refl, tt)
