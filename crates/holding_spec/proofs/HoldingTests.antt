-- Holding (02, request 5), computed: calls one behind the other, each with its answer, its text and the receiver that it leaves.
-- Packets of source 7, T140 98; packet n has a letter of its own.
use Prim.Native.Nat.{ℕ, ◌+◌, ◌-◌, ◌%◌}
use mathlib.Core.Path.{◌≡◌, refl}
use mathlib.Core.List.{List, [], ◌∷◌}
use mathlib.Core.Bool.{true, false}
use mathlib.Core.Option.{Option, none, some}
use lib.IntN.{pos, negsuc}
use Rattle.base.specs.Every.{Every}
use Rattle.packet_spec.specs.Limits.{level}
use Rattle.packet_spec.specs.Redundancy.{headers}
use Rattle.packet_spec.specs.Reading.{reading}
use Rattle.receiver_spec.specs.State.{fresh_receiver, keeping}
use Rattle.receiver_spec.specs.Answers.{Given}
use Rattle.receiver_spec.proofs.CourseTests.{newest, from}
use Rattle.holding_spec.specs.State.{HoldingReceiver, holds_none, holds_one, fresh_holding}
use Rattle.holding_spec.specs.Answers.{neither, held, new, HoldingAnswer, refuses, waits, is_late, is_jump, is_break, gives}
use Rattle.holding_spec.specs.Step.{holding_step, text_handed}
use Rattle.holding_spec.specs.Record.{new_bytes}

pub record Line : Type 0 where
  pub clock : ℕ
  pub lent : List ℕ
  pub packet : Option (List ℕ)
  pub answer : HoldingAnswer
  pub text : List ℕ
  pub left : HoldingReceiver

pub record Row : Type 0 where
  pub opened : HoldingReceiver
  pub lines : List Line

abbrev pub Follows : HoldingReceiver → List Line → Type 0
Follows s [] = Unit {0}
Follows s (l ∷ ls) =
    (holding_step s l.clock l.lent l.packet ≡ record { receiver = l.left; answer = l.answer })
    × (text_handed l.lent (new_bytes l.packet) l.answer ≡ l.text)
    × Follows l.left ls

abbrev pub Holds : Row → Type 0
Holds row = Follows row.opened row.lines

abbrev letter : ℕ → ℕ
letter n = 0x41 + n % 26

-- packet n alone, and with the block before it
abbrev pub one : ℕ → List ℕ
one n = from 0x62 7 n (letter n ∷ [])

abbrev two : ℕ → List ℕ
two n = from 0x64 7 n (0xE2 ∷ 0x04 ∷ 0xB0 ∷ 0x01 ∷ 0x62 ∷ letter (n - 1) ∷ letter n ∷ [])

abbrev stranger : List ℕ
stranger = from 0x62 8 8 (0x49 ∷ [])

-- what packet `one` gives, with its loss and distance, which are the same; and what `two` gives
abbrev pub alone : ℕ → Given
alone d = record { loss = d; distance = pos d; older = 0; given = 1; from = 12; to = 13 }

abbrev both : ℕ → ℕ → Given
both marks d = record { loss = marks; distance = pos d; older = 1; given = 2; from = 17; to = 19 }

-- a step and a wait at a clock with this lent: the answer, the text and the receiver left
abbrev step : ℕ → List ℕ → List ℕ → HoldingAnswer → List ℕ → HoldingReceiver → Line
step t lent p a text left = record { clock = t; lent = lent; packet = some p; answer = a; text = text; left = left }

abbrev wait : ℕ → List ℕ → HoldingAnswer → List ℕ → HoldingReceiver → Line
wait t lent a text left = record { clock = t; lent = lent; packet = none; answer = a; text = text; left = left }

abbrev row : HoldingReceiver → List Line → Row
row s ls = record { opened = s; lines = ls }

unfoldable pub rows : List Row
rows =
    -- 5, 27 and the packet's own refusals, in this order; 999 ms and 1,000
    row (holds_none (newest 5) 0)
    (step 10 [] (one 8) (waits (pos 2) new) [] (holds_one (newest 5) 8 10 10)
    ∷ wait 9 (one 8) (refuses 5) [] (holds_one (newest 5) 8 10 10)
    ∷ step 9 [] (one 6) (refuses 5) [] (holds_one (newest 5) 8 10 10)
    ∷ step 10 (one 7) [] (refuses 27) [] (holds_one (newest 5) 8 10 10)
    ∷ wait 10 [] (refuses 27) [] (holds_one (newest 5) 8 10 10)
    ∷ wait 10 stranger (refuses 27) [] (holds_one (newest 5) 8 10 10)
    ∷ step 900 (one 8) [] (refuses 10) [] (holds_one (newest 5) 8 10 10)
    ∷ step 10 (one 8) stranger (refuses 16) [] (holds_one (newest 5) 8 10 10)
    ∷ wait 1009 (one 8) (waits (pos 0) held) [] (holds_one (newest 5) 8 10 1009)
    ∷ wait 1010 (one 8) (gives held neither false (alone 2)) (letter 8 ∷ []) (holds_none (newest 8) 1010)
    ∷ [])
    -- a copy of the held one is late; the gap is closed from its start; the held one goes out before the next
    ∷ row (holds_none (newest 5) 0)
    (step 10 [] (one 8) (waits (pos 2) new) [] (holds_one (newest 5) 8 10 10)
    ∷ step 20 (one 8) (one 8) (is_late (pos 2) held) [] (holds_one (newest 5) 8 10 20)
    ∷ step 20 (one 8) (one 6) (gives new held false (alone 0)) (letter 6 ∷ []) (holds_one (newest 6) 8 10 20)
    ∷ wait 21 (one 8) (waits (pos 0) held) [] (holds_one (newest 6) 8 10 21)
    ∷ step 22 (one 8) (one 7) (gives new held false (alone 0)) (letter 7 ∷ []) (holds_one (newest 7) 8 10 22)
    ∷ step 23 (one 8) (one 9) (gives held new false (alone 0)) (letter 8 ∷ []) (holds_one (newest 8) 9 23 23)
    ∷ wait 23 (one 9) (gives held neither false (alone 0)) (letter 9 ∷ []) (holds_none (newest 9) 23)
    ∷ wait 23 [] (waits (pos 0) neither) [] (holds_none (newest 9) 23)
    ∷ [])
    -- the nearer one goes out, with its marks; the other keeps its first arrival
    ∷ row (holds_none (newest 5) 0)
    (step 10 [] (one 8) (waits (pos 2) new) [] (holds_one (newest 5) 8 10 10)
    ∷ step 20 (one 8) (one 10) (gives held new false (alone 2)) (letter 8 ∷ []) (holds_one (newest 8) 10 20 20)
    ∷ [])
    ∷ row (holds_none (newest 5) 0)
    (step 10 [] (one 8) (waits (pos 2) new) [] (holds_one (newest 5) 8 10 10)
    ∷ step 20 (one 8) (one 7) (gives new held false (alone 1)) (letter 7 ∷ []) (holds_one (newest 7) 8 10 20)
    ∷ [])
    -- repeats close a gap
    ∷ row (holds_none (newest 5) 0)
    (step 0 [] (two 9) (waits (pos 3) new) [] (holds_one (newest 5) 9 0 0)
    ∷ step 0 (two 9) (one 6) (gives new held false (alone 0)) (letter 6 ∷ []) (holds_one (newest 6) 9 0 0)
    ∷ wait 0 (two 9) (waits (pos 0) held) [] (holds_one (newest 6) 9 0 0)
    ∷ step 0 (two 9) (one 7) (gives new held false (alone 0)) (letter 7 ∷ []) (holds_one (newest 7) 9 0 0)
    ∷ wait 0 (two 9) (gives held neither false (both 0 1)) (letter 8 ∷ letter 9 ∷ []) (holds_none (newest 9) 0)
    ∷ step 0 [] (two 11) (gives new neither false (both 0 1)) (letter 10 ∷ letter 11 ∷ []) (holds_none (newest 11) 0)
    ∷ [])
    -- a late packet and a jump release nothing; handing out leaves the number kept
    ∷ row (holds_none (newest 5) 0)
    (step 0 [] (one 12) (waits (pos 6) new) [] (holds_one (newest 5) 12 0 0)
    ∷ step 5000 (one 12) (one 4) (is_late (negsuc 1) held) [] (holds_one (newest 5) 12 0 5000)
    ∷ step 5000 (one 12) (one 30000) (is_jump (pos 29994) held) [] (holds_one (keeping (newest 5) 30001) 12 0 5000)
    ∷ wait 5000 (one 12) (gives held neither false (alone 6)) (letter 12 ∷ []) (holds_none (keeping (newest 12) 30001) 5000)
    ∷ step 5000 [] (one 30001) (is_break (alone 0)) (letter 30001 ∷ []) (holds_none (newest 30001) 5000)
    ∷ [])
    -- a break with one held, which a copy of it does not hinder
    ∷ row (holds_none (newest 5) 0)
    (step 10 [] (one 8) (waits (pos 2) new) [] (holds_one (newest 5) 8 10 10)
    ∷ step 30 (one 8) (one 20000) (is_jump (pos 19994) held) [] (holds_one (keeping (newest 5) 20001) 8 10 30)
    ∷ step 30 (one 8) (one 8) (is_late (pos 2) held) [] (holds_one (keeping (newest 5) 20001) 8 10 30)
    ∷ step 31 (one 8) (two 20001) (gives held neither true (alone 2)) (letter 8 ∷ []) (holds_none (keeping (newest 8) 20001) 31)
    ∷ step 31 [] (two 20001) (is_break (both 0 0)) (letter 20000 ∷ letter 20001 ∷ []) (holds_none (newest 20001) 31)
    ∷ [])
    -- given again, it may be forward
    ∷ row (holds_none (newest 5) 0)
    (step 0 [] (one 3000) (waits (pos 2994) new) [] (holds_one (newest 5) 3000 0 0)
    ∷ step 0 (one 3000) (one 3999) (is_jump (pos 3993) held) [] (holds_one (keeping (newest 5) 4000) 3000 0 0)
    ∷ step 0 (one 3000) (one 4000) (gives held neither true (alone 2994)) (letter 3000 ∷ []) (holds_none (keeping (newest 3000) 4000) 0)
    ∷ step 7 [] (one 4000) (waits (pos 999) new) [] (holds_one (newest 3000) 4000 7 7)
    ∷ [])
    -- a forward packet clears the number kept on arrival, also where it is held
    ∷ row (holds_none (keeping (newest 5) 20001) 0)
    (step 0 [] (one 8) (waits (pos 2) new) [] (holds_one (newest 5) 8 0 0)
    ∷ step 0 (one 8) (one 20001) (is_jump (pos 19995) held) [] (holds_one (keeping (newest 5) 20002) 8 0 0)
    ∷ [])
    -- the first packet, which is never held; what is lent as held is not looked at
    ∷ row (fresh_holding 98 100)
    (wait 3 (one 9) (waits (pos 0) neither) [] (holds_none (fresh_receiver 98 100) 3)
    ∷ step 4 (one 9) (two 65533) (gives new neither false (both 0 0)) (letter 65532 ∷ letter 65533 ∷ []) (holds_none (newest 65533) 4)
    -- numbers wrap; a clock does not
    ∷ step 18446744073709550615 [] (one 0) (waits (pos 2) new) [] (holds_one (newest 65533) 0 18446744073709550615 18446744073709550615)
    ∷ step 18446744073709551614 (one 0) (one 65535) (gives new held false (alone 1)) (letter 65535 ∷ []) (holds_one (newest 65535) 0 18446744073709550615 18446744073709551614)
    ∷ step 18446744073709551614 (one 0) (one 2) (gives held new false (alone 0)) (letter 0 ∷ []) (holds_one (newest 0) 2 18446744073709551614 18446744073709551614)
    ∷ wait 18446744073709551615 (one 2) (waits (pos 0) held) [] (holds_one (newest 0) 2 18446744073709551614 18446744073709551615)
    ∷ wait 18446744073709551614 (one 2) (refuses 5) [] (holds_one (newest 0) 2 18446744073709551614 18446744073709551615)
    ∷ [])
    -- all zeros: 3, before 5
    ∷ row (holds_one (fresh_receiver 0 0) 0 0 9)
    (step 8 [] [] (refuses 3) [] (holds_one (fresh_receiver 0 0) 0 0 9) ∷ wait 0 [] (refuses 3) [] (holds_one (fresh_receiver 0 0) 0 0 9) ∷ [])
    ∷ []

pub holding_tests : Every Holds rows
unfolding rows holding_step reading headers level
holding_tests = ((refl, refl, (refl, refl, (refl, refl, (refl, refl, (refl, refl, (refl, refl, (refl, refl, (refl, refl, (refl, refl, (refl, refl, tt)))))))))), ((refl, refl, (refl, refl, (refl, refl, (refl, refl, (refl, refl, (refl, refl, (refl, refl, (refl, refl, tt)))))))), ((refl, refl, (refl, refl, tt)), ((refl, refl, (refl, refl, tt)), ((refl, refl, (refl, refl, (refl, refl, (refl, refl, (refl, refl, (refl, refl, tt)))))), ((refl, refl, (refl, refl, (refl, refl, (refl, refl, (refl, refl, tt))))), ((refl, refl, (refl, refl, (refl, refl, (refl, refl, (refl, refl, tt))))), ((refl, refl, (refl, refl, (refl, refl, (refl, refl, tt)))), ((refl, refl, (refl, refl, tt)), ((refl, refl, (refl, refl, (refl, refl, (refl, refl, (refl, refl, (refl, refl, (refl, refl, tt))))))), ((refl, refl, (refl, refl, tt)), tt)))))))))))
