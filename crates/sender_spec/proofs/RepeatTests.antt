-- Cases of a sender that repeats more than one block, computed over the definitions.
-- Needs level 4.
use mathlib.Core.Path.{refl}
use mathlib.Core.List.{[], ◌∷◌}
use Rattle.packet_spec.specs.Limits.{level}
use Rattle.packet_spec.specs.Redundancy.{headers}
use Rattle.packet_spec.specs.Reading.{reading}
use Rattle.sender_spec.specs.Settings.{settings_number}
use Rattle.sender_spec.specs.Calls.{open_sender, offer_of, clock_of}
use Rattle.sender_spec.proofs.Tables.{offer, clock, accepted, sent, ◌answers◌, Case, from, CasesHold, opened, A, B, M, no_m, ago, holding}

-- empty blocks count as blocks
unfoldable pub empty_blocks : Case
empty_blocks =
    from (opened 4 300) (
    offer 0 A answers accepted
    ∷ clock 0 answers sent 14 (holding M 65535 1000 [] A)
    ∷ clock 300 answers sent 18 (holding no_m 0 1300 (ago 300 A ∷ []) [])
    ∷ clock 600 answers sent 22 (holding no_m 1 1600 (ago 600 A ∷ ago 300 [] ∷ []) [])
    ∷ offer 600 B answers accepted
    ∷ clock 900 answers sent 27 (holding M 2 1900 (ago 900 A ∷ ago 600 [] ∷ ago 300 [] ∷ []) B)
    ∷ clock 1200 answers sent 31 (holding no_m 3 2200 (ago 1200 A ∷ ago 900 [] ∷ ago 600 [] ∷ ago 300 B ∷ []) [])
    ∷ clock 1500 answers sent 30 (holding no_m 4 2500 (ago 1200 [] ∷ ago 900 [] ∷ ago 600 B ∷ ago 300 [] ∷ []) [])
    ∷ []
    )

-- a run ends before the first block that is too old
unfoldable pub old_block : Case
old_block =
    from (opened 2 300) (
    offer 0 A answers accepted
    ∷ clock 0 answers sent 14 (holding M 65535 1000 [] A)
    ∷ offer 16000 B answers accepted
    ∷ clock 16000 answers sent 19 (holding M 0 17000 (ago 16000 A ∷ []) B)
    ∷ clock 16384 answers sent 18 (holding no_m 1 17384 (ago 384 B ∷ []) [])
    ∷ []
    )

pub repeat_tests : CasesHold (empty_blocks ∷ old_block ∷ [])
unfolding empty_blocks old_block open_sender offer_of clock_of settings_number reading headers level
repeat_tests = (refl, (refl, tt))
