-- Cases of the sender, computed over the definitions.
use Prim.Native.Nat.{ℕ, ◌+◌}
use mathlib.Core.Path.{◌≡◌, refl}
use mathlib.Core.List.{List, [], ◌∷◌, ◌++◌}
use lib.ListN.{replicate}
use Rattle.packet_spec.specs.Limits.{level}
use Rattle.packet_spec.specs.Redundancy.{headers}
use Rattle.packet_spec.specs.Reading.{reading}
use Rattle.sender_spec.specs.Settings.{settings_number}
use Rattle.sender_spec.specs.State.{Settings, Sender, fresh_sender, zero_settings, zero_sender}
use Rattle.sender_spec.specs.Answers.{CallResult}
use Rattle.sender_spec.specs.Calls.{open_sender, offer_of, clock_of}
use Rattle.sender_spec.proofs.Tables.{rated, typed, offer, clock_in, clock, accepted, quiet, refused, sent, ◌answers◌, after, Case, from, CasesHold, opened_at, opened, A, B, letters, not_text, M, no_m, ago, holding, before_end}

-- Openings: settings, and what is answered.

pub record Opening : Type 0 where
  pub settings : Settings
  pub answer : CallResult

infixl 68 ◌opens ◌meets◌
abbrev pub ◌opens : Settings → Opening
s opens = record { settings = s; answer = record { number = 0; sender = fresh_sender s } }

abbrev pub ◌meets◌ : Settings → ℕ → Opening
s meets n = record { settings = s; answer = record { number = n; sender = zero_sender } }

-- 1, 2, 3 and 9, in order
unfoldable pub openings : List Opening
openings =
    typed (level + 1) 0 98 98 meets 1
    ∷ typed (level + 1) 300 98 100 meets 1
    ∷ typed level 0 98 98 meets 2
    ∷ typed level 0 98 100 meets 2
    ∷ typed level 501 98 98 meets 2
    ∷ typed level 500 98 98 meets 3
    ∷ typed level 500 95 100 meets 3
    ∷ typed level 500 98 128 meets 3
    ∷ rated level 0 0 98 98 meets 2
    ∷ rated level 500 0 98 98 meets 3
    ∷ rated level 500 0 98 100 meets 9
    ∷ rated level 500 101 98 100 meets 9
    ∷ rated level 500 1 98 100 opens
    ∷ rated level 500 100 98 100 opens
    ∷ typed level 500 96 127 opens
    ∷ typed 0 1 127 96 opens
    ∷ zero_settings meets 2
    ∷ []

abbrev pub OpeningsHold : List Opening → Type 0
OpeningsHold [] = Unit {0}
OpeningsHold (o ∷ os) = (open_sender o.settings ≡ o.answer) × OpeningsHold os

pub opening_tests : OpeningsHold openings
unfolding openings open_sender settings_number level
opening_tests = (refl, (refl, (refl, (refl, (refl, (refl, (refl, (refl, (refl, (refl, (refl, (refl, (refl, (refl, (refl, (refl, (refl, tt)))))))))))))))))

-- offering: 5, 7, 6, 4, in order; the waiting room holds 160 bytes
unfoldable pub offering : Case
offering =
    from (opened_at 1 300 100) (
    clock 10 answers quiet
    ∷ offer 9 [] answers refused 5
    ∷ offer 9 (not_text 161) answers refused 5
    ∷ offer 9 (letters 161) answers refused 5
    ∷ offer 10 [] answers refused 7
    ∷ offer 10 (not_text 161) answers refused 6
    ∷ offer 10 (letters 161) answers refused 4
    ∷ offer 10 (letters 160) answers accepted
    ∷ offer 10 (not_text 1) answers refused 6
    ∷ offer 10 A answers refused 4
    ∷ clock 10 answers sent 173 (holding M 65535 1010 [] (letters 160))
    ∷ offer 10 (letters 159) answers accepted
    ∷ offer 11 B answers accepted
    ∷ clock 310 answers sent 337 (holding no_m 0 1310 (ago 300 (letters 160) ∷ []) (letters 159 ++ B))
    ∷ []
    )

-- the clock call: 5, then whether anything is due, then 8; quiet keeps the clock, 8 does not
unfoldable pub clocking : Case
clocking =
    from (opened 1 300) (
    clock_in 0 0 answers quiet
    ∷ offer 0 A answers accepted
    ∷ clock_in 500 13 answers refused 8
    ∷ offer 400 B answers accepted
    ∷ clock_in 399 0 answers refused 5
    ∷ clock_in 500 14 answers refused 8
    ∷ clock_in 500 15 answers sent 15 (holding M 65535 1500 [] (A ++ B))
    ∷ clock_in 799 0 answers quiet
    ∷ offer 798 A answers refused 5
    ∷ clock_in 800 0 answers refused 8
    ∷ []
    )

-- M goes by the first waiting byte: offered 300 ms after the last text
unfoldable pub marker_300 : Case
marker_300 =
    from (opened 0 300) (
    offer 0 A answers accepted
    ∷ clock 0 answers sent 13 (holding M 65535 1000 [] A)
    ∷ offer 300 B answers accepted
    ∷ offer 900 A answers accepted
    ∷ clock 900 answers sent 14 (holding no_m 0 1900 [] (B ++ A))
    ∷ []
    )

-- and 301 ms after it
unfoldable pub marker_301 : Case
marker_301 =
    from (opened 0 300) (
    offer 0 A answers accepted
    ∷ clock 0 answers sent 13 (holding M 65535 1000 [] A)
    ∷ offer 301 B answers accepted
    ∷ clock 301 answers sent 13 (holding M 0 1301 [] B)
    ∷ []
    )

-- M goes by the last packet that had text, not by an empty one behind it
unfoldable pub marker_text : Case
marker_text =
    from (opened 1 300) (
    offer 0 A answers accepted
    ∷ clock 0 answers sent 14 (holding M 65535 1000 [] A)
    ∷ clock 300 answers sent 18 (holding no_m 0 1300 (ago 300 A ∷ []) [])
    ∷ offer 301 B answers accepted
    ∷ clock 600 answers sent 18 (holding M 1 1600 (ago 300 [] ∷ []) B)
    ∷ []
    )

-- nothing overflows at the end of the 64-bit clock
unfoldable pub no_overflow : Case
no_overflow =
    from (opened 1 500) (
    offer (before_end 601) A answers accepted
    ∷ clock (before_end 601) answers sent 14 (holding M 65535 399 [] A)
    ∷ clock (before_end 102) answers quiet
    ∷ clock (before_end 101) answers sent 18 (holding no_m 0 899 (ago 500 A ∷ []) [])
    ∷ clock (before_end 1) answers quiet
    ∷ []
    )

-- a zero sender answers 2 to every call
unfoldable pub zeros : Case
zeros =
    from zero_sender (
    offer 0 [] answers refused 2
    ∷ offer 0 A answers refused 2
    ∷ clock 0 answers refused 2
    ∷ clock_in 0 0 answers refused 2
    ∷ []
    )

pub case_tests : CasesHold (offering ∷ clocking ∷ marker_300 ∷ marker_301 ∷ marker_text ∷ no_overflow ∷ zeros ∷ [])
unfolding offering clocking marker_300 marker_301 marker_text no_overflow zeros open_sender offer_of clock_of settings_number reading headers level
case_tests = (refl, (refl, (refl, (refl, (refl, (refl, (refl, tt)))))))

-- Lent bytes: a sender, the clock of a call, and the bytes before and after it.

pub record Writing : Type 0 where
  pub start : Sender
  pub clock : ℕ
  pub before : List ℕ
  pub after : List ℕ

abbrev pub writing : Sender → ℕ → List ℕ → List ℕ → Writing
writing s t p q = record { start = s; clock = t; before = p; after = q }

abbrev pub WritingsHold : List Writing → Type 0
WritingsHold [] = Unit {0}
WritingsHold (w ∷ ws) = ((clock_of w.start w.clock w.before).lent ≡ w.after) × WritingsHold ws

-- a sender of this level to which `A` was offered at 5
abbrev waiting_a : ℕ → Sender
waiting_a r = after (opened r 300) (offer 5 A)

abbrev space : ℕ → List ℕ
space n = replicate n 0xEE

-- a level of 0 has type T140, any other RED, and bytes past the packet stay; a call that is refused or quiet writes nothing
unfoldable pub writings : List Writing
writings =
    writing (waiting_a 0) 5 (space 15)
    (0x80 ∷ 0xE2 ∷ 0xFF ∷ 0xFF ∷ 0x00 ∷ 0x00 ∷ 0x03 ∷ 0xED ∷ 0x00 ∷ 0x00 ∷ 0x00 ∷ 0x07 ∷ 0x41 ∷ 0xEE ∷ 0xEE ∷ [])
    ∷ writing (waiting_a 1) 5 (space 15)
    (0x80 ∷ 0xE4 ∷ 0xFF ∷ 0xFF ∷ 0x00 ∷ 0x00 ∷ 0x03 ∷ 0xED ∷ 0x00 ∷ 0x00 ∷ 0x00 ∷ 0x07 ∷ 0x62 ∷ 0x41 ∷ 0xEE ∷ [])
    ∷ writing (waiting_a 1) 5 (space 13) (space 13)
    ∷ writing (waiting_a 1) 4 (space 15) (space 15)
    ∷ writing (opened 1 300) 5 (space 15) (space 15)
    ∷ writing zero_sender 5 (space 15) (space 15)
    ∷ []

pub writing_tests : WritingsHold writings
unfolding writings open_sender offer_of clock_of settings_number level
writing_tests = (refl, (refl, (refl, (refl, (refl, (refl, tt))))))
