-- Cases of the rate, computed over the definitions: at 1 character per second ten leave in 10,000 ms, both ends included.
use Prim.Native.Nat.{ℕ, zero, suc}
use mathlib.Core.Path.{◌≡◌, refl}
use mathlib.Core.List.{List, [], ◌∷◌, ◌++◌}
use Rattle.packet_spec.specs.Limits.{level}
use Rattle.packet_spec.specs.Redundancy.{headers}
use Rattle.packet_spec.specs.Reading.{reading}
use Rattle.sender_spec.specs.Settings.{settings_number}
use Rattle.sender_spec.specs.Calls.{open_sender, offer_of, clock_of}
use Rattle.sender_spec.proofs.Tables.{offer, clock_in, clock, accepted, quiet, refused, sent, ◌answers◌, after, Case, from, CasesHold, opened_at, A, B, letters, M, no_m, ago, holding, before_end}

-- a letter of two bytes, so many times
abbrev rings : ℕ → List ℕ
rings zero = []
rings (suc n) = 0xC3 ∷ 0xA5 ∷ rings n

-- ten of eleven letters, and the last when the ten have left the window; a leftover has no M
unfoldable pub whole_letters : Case
whole_letters =
    from (opened_at 0 1 1) (
    offer 0 (rings 11) answers accepted
    ∷ clock 0 answers sent 32 (holding M 65535 1000 [] (rings 10))
    ∷ clock 1 answers quiet
    ∷ clock 5000 answers quiet
    ∷ clock 10000 answers quiet
    ∷ clock 10001 answers sent 14 (holding no_m 0 11001 [] (rings 1))
    ∷ []
    )

-- text that is held back whole keeps its own time
unfoldable pub held_1 : Case
held_1 =
    from (opened_at 0 1 1) (
    offer 0 (letters 10) answers accepted
    ∷ clock 0 answers sent 22 (holding M 65535 1000 [] (letters 10))
    ∷ offer 1 B answers accepted
    ∷ clock 10000 answers quiet
    ∷ clock 10001 answers sent 13 (holding no_m 0 11001 [] B)
    ∷ []
    )

unfoldable pub held_2 : Case
held_2 =
    from (opened_at 0 1 1) (
    offer 0 (letters 10) answers accepted
    ∷ clock 0 answers sent 22 (holding M 65535 1000 [] (letters 10))
    ∷ offer 2 B answers accepted
    ∷ clock 10000 answers quiet
    ∷ clock 10001 answers sent 13 (holding M 0 11001 [] B)
    ∷ []
    )

-- as much leaves as has left the window
unfoldable pub by_parts : Case
by_parts =
    from (opened_at 0 1 1) (
    offer 0 (letters 5) answers accepted
    ∷ clock 0 answers sent 17 (holding M 65535 1000 [] (letters 5))
    ∷ offer 1 (letters 5) answers accepted
    ∷ clock 1 answers sent 17 (holding no_m 0 1001 [] (letters 5))
    ∷ offer 2 (letters 9 ++ B) answers accepted
    ∷ clock 10000 answers quiet
    ∷ clock 10001 answers sent 17 (holding no_m 1 11001 [] (letters 5))
    ∷ clock 10002 answers sent 17 (holding no_m 2 11002 [] (letters 4 ++ B))
    ∷ []
    )

-- an empty primary repeats while text waits
unfoldable pub repeats_on : Case
repeats_on =
    from (opened_at 1 300 1) (
    offer 0 (letters 10 ++ B) answers accepted
    ∷ clock 0 answers sent 23 (holding M 65535 1000 [] (letters 10))
    ∷ clock 300 answers sent 27 (holding no_m 0 1300 (ago 300 (letters 10) ∷ []) [])
    ∷ clock 600 answers quiet
    ∷ clock 10001 answers sent 18 (holding no_m 1 11001 (ago 9701 [] ∷ []) B)
    ∷ clock 10301 answers sent 18 (holding no_m 2 11301 (ago 300 B ∷ []) [])
    ∷ clock 10601 answers quiet
    ∷ []
    )

unfoldable pub in_three : Case
in_three =
    from (opened_at 0 1 1) (
    offer 0 (letters 25) answers accepted
    ∷ clock 0 answers sent 22 (holding M 65535 1000 [] (letters 10))
    ∷ clock 10001 answers sent 22 (holding no_m 0 11001 [] (letters 10))
    ∷ clock 20002 answers sent 17 (holding no_m 1 21002 [] (letters 5))
    ∷ []
    )

-- text offered behind a leftover goes with it, and has no M either
unfoldable pub behind_leftover : Case
behind_leftover =
    from (opened_at 0 500 1) (
    offer 0 (letters 11) answers accepted
    ∷ clock 0 answers sent 22 (holding M 65535 1000 [] (letters 10))
    ∷ offer 9000 B answers accepted
    ∷ clock 10001 answers sent 14 (holding no_m 0 11001 [] (A ++ B))
    ∷ []
    )

-- a call that is refused spends nothing
unfoldable pub short_space : Case
short_space =
    from (opened_at 0 1 1) (
    offer 0 (letters 11) answers accepted
    ∷ clock_in 0 21 answers refused 8
    ∷ clock_in 0 22 answers sent 22 (holding M 65535 1000 [] (letters 10))
    ∷ []
    )

-- nothing overflows at the end of the 64-bit clock
unfoldable pub at_the_end : Case
at_the_end =
    from (opened_at 0 500 1) (
    offer (before_end 10002) (letters 10 ++ B) answers accepted
    ∷ clock (before_end 10002) answers sent 22 (holding M 65535 4294958294 [] (letters 10))
    ∷ clock (before_end 2) answers quiet
    ∷ clock (before_end 1) answers sent 13 (holding no_m 0 999 [] B)
    ∷ []
    )

pub rate_tests : CasesHold (whole_letters ∷ held_1 ∷ held_2 ∷ by_parts ∷ repeats_on ∷ in_three ∷ behind_leftover ∷ short_space ∷ at_the_end ∷ [])
unfolding whole_letters held_1 held_2 by_parts repeats_on in_three behind_leftover short_space at_the_end open_sender offer_of clock_of settings_number reading headers level
rate_tests = (refl, (refl, (refl, (refl, (refl, (refl, (refl, (refl, (refl, tt)))))))))

-- a leftover counts as offered when the packet that left it was sent, text held back whole when it was
pub leftover_time : (after (after (opened_at 0 1 1) (offer 0 (letters 11))) (clock 5)).since ≡ 5
unfolding open_sender offer_of clock_of settings_number level
leftover_time = refl

pub held_time : (after (after (after (after (opened_at 1 300 1) (offer 0 (letters 10))) (clock 0)) (offer 7 B)) (clock 300)).since ≡ 7
unfolding open_sender offer_of clock_of settings_number level
held_time = refl
