-- 01's line tests T1 to T12 (T7 and T8 by 02's request 4), as one table: each row a call, made on a receiver or a sender, and
-- all that comes of it. Where a test goes on, its next row's call is made on what the row before left. T140 is 98, RED 100.
use Rattle.std.specs.Prelude.{ℕ, ◌≡◌, List, [], ◌∷◌, ◌++◌, Bool, true, false, ℤ, pos, negsuc, replicate, take}
use Rattle.base.specs.Every.{Every}
use Rattle.packet_spec.specs.Limits.{level, longest}
use Rattle.packet_spec.specs.Header.{Any}
use Rattle.packet_spec.specs.Redundancy.{Block}
use Rattle.packet_spec.specs.Reading.{Read, holds, refused, reading}
use Rattle.receiver_spec.specs.Opening as receiver
use Rattle.receiver_spec.specs.State.{Receiver, keeping, read_by}
use Rattle.receiver_spec.specs.Step.{step_of, text_given}
use Rattle.receiver_spec.specs.Answers.{gives, is_jump, is_late, refuses, StepAnswer}
use Rattle.sender_spec.specs.State as state
use Rattle.sender_spec.specs.State.{Settings, Sender}
use Rattle.sender_spec.specs.Answers as answers
use Rattle.sender_spec.specs.Calls.{open_sender, offer_of, clock_of}

pub data Test : Type 0 where
  T1 T2 T3 T4 T5 T6 T7 T8 T9 T10 T11 T12 : Test

pub data TestCall : Type 0 where
  -- on a receiver, a packet
  step : Receiver → List ℕ → TestCall
  -- on a sender at a clock, a text
  offer : Sender → ℕ → List ℕ → TestCall
  -- on a sender at a clock, with space for the longest packet
  clock : Sender → ℕ → TestCall

pub data Outcome : Type 0 where
  -- what the packet is read as, the answer, the text, and the receiver afterwards
  steps : Read → StepAnswer → List ℕ → Receiver → Outcome
  -- the number, and the sender afterwards
  offers : ℕ → Sender → Outcome
  -- the answer, what the packet is read as, where one was written, and the sender afterwards
  clocks : answers.ClockAnswer → List Read → Sender → Outcome

-- the packet that a clock call wrote, read by a reader with the same payload types
abbrev pub read_back : answers.ClockAnswer → List ℕ → List Read
read_back (answers.refused n) lent = []
read_back answers.quiet lent = []
read_back (answers.sent n) lent = reading level Any 98 100 (take n lent) ∷ []

abbrev pub outcome_of : TestCall → Outcome
outcome_of (step r p) = steps (read_by r p) (step_of r p).answer (text_given p (step_of r p).answer) (step_of r p).receiver
outcome_of (offer s t x) = offers (offer_of s t x).number (offer_of s t x).sender
outcome_of (clock s t) =
    let c = clock_of s t (replicate longest 0xEE) in
    clocks c.answer (read_back c.answer c.lent) c.sender

pub record TestRow : Type 0 where
  pub test : Test
  pub call : TestCall
  pub outcome : Outcome

abbrev pub test_row : Test → TestCall → Outcome → TestRow
test_row name call outcome = record { test = name; call = call; outcome = outcome }

-- a receiver just opened, and one that accepted a packet of this source and expects a number
abbrev pub just_opened : Receiver
just_opened = (receiver.open_receiver 98 100).receiver

abbrev pub expecting : ℕ → ℕ → Receiver
expecting source n = record { t140 = 98; red = 100; has_source = true; source = source; expected = n; has_kept = false; kept = 0 }

-- a step's answer: loss, distance, number of older blocks, number of blocks given, and where these start and end
abbrev pub given : ℕ → ℤ → ℕ → ℕ → ℕ → ℕ → StepAnswer
given marks z older blocks from to = gives (record { loss = marks; distance = z; older = older; given = blocks; from = from; to = to })

-- a packet as it is read: marker, sequence number, timestamp, source, older blocks, primary
abbrev pub read : Bool → ℕ → ℕ → ℕ → List Block → List ℕ → Read
read m n t source older x = holds (record { marker = m; sequence = n; timestamp = t; source = source; older = older; primary = x })

abbrev pub M : Bool
M = true

abbrev pub no_m : Bool
no_m = false

-- an older block with its time offset
abbrev pub ago : ℕ → List ℕ → Block
ago offset x = record { offset = offset; bytes = x }

abbrev pub A : List ℕ
A = 0x41 ∷ []

abbrev pub B : List ℕ
B = 0x42 ∷ []

abbrev pub C : List ℕ
C = 0x43 ∷ []

-- packets of timestamp and source 0, with the two bytes of the sequence number, as T140 and as RED
abbrev pub plain : ℕ → ℕ → List ℕ → List ℕ
plain high low payload = 0x80 ∷ 0x62 ∷ high ∷ low ∷ (replicate 8 0 ++ payload)

abbrev pub redundant : ℕ → ℕ → List ℕ → List ℕ
redundant high low payload = 0x80 ∷ 0x64 ∷ high ∷ low ∷ (replicate 8 0 ++ payload)

-- the packet of 01's whole case
abbrev pub whole : List ℕ
whole = 0x80 ∷ 0x64 ∷ 0x00 ∷ 0x05 ∷ 0x00 ∷ 0x00 ∷ 0x03 ∷ 0xE8 ∷ 0x11 ∷ 0x22 ∷ 0x33 ∷ 0x44 ∷ 0xE2 ∷ 0x04 ∷ 0xB0 ∷ 0x01 ∷ 0x62 ∷ 0x41 ∷ []

-- RED payloads: older blocks `A` (offset 600) and `B` (300), primary `C`; older block `A` (300), primary empty
abbrev pub two : List ℕ
two = 0xE2 ∷ 0x09 ∷ 0x60 ∷ 0x01 ∷ 0xE2 ∷ 0x04 ∷ 0xB0 ∷ 0x01 ∷ 0x62 ∷ 0x41 ∷ 0x42 ∷ 0x43 ∷ []

abbrev pub one : List ℕ
one = 0xE2 ∷ 0x04 ∷ 0xB0 ∷ 0x01 ∷ 0x62 ∷ 0x41 ∷ []

-- a sender of this level just opened, time 300, rate 30; with `A` waiting, offered at 0; and with nothing waiting, `A` at 0 being the
-- last text sent: its latest clock, the blocks kept, when the last packet left, the next sequence number
abbrev pub settings : ℕ → Settings
settings R = record { level = R; buffering = 300; rate = 30; t140 = 98; red = 100; sequence = 65535; timestamp = 1000; source = 7 }

abbrev pub opened : ℕ → Sender
opened R = (open_sender (settings R)).sender

abbrev pub waiting_a : ℕ → Sender
waiting_a R = record {
  settings = settings R;
  clock = 0;
  waiting = A;
  characters = 1;
  since = 0;
  kept = [];
  times = [];
  progress = record { sent = false; last = 0; last_text = 0; next = 65535 };
}

abbrev pub idle : ℕ → ℕ → List state.SentBlock → ℕ → ℕ → Sender
idle R t kept last next = record {
  settings = settings R;
  clock = t;
  waiting = [];
  characters = 0;
  since = 0;
  kept = kept;
  times = 0 ∷ [];
  progress = record { sent = true; last = last; last_text = 0; next = next };
}

-- a block sent at a clock
infixl 68 ◌sent_at◌
abbrev pub ◌sent_at◌ : List ℕ → ℕ → state.SentBlock
x sent_at t = record { text = x; at = t }

-- T11's and T12's sender, with this latest clock: behind the packet at 0, behind one more at 300, and behind one more at 600
abbrev pub after_one : ℕ → ℕ → Sender
after_one R t = idle R t (A sent_at 0 ∷ []) 0 0

abbrev pub after_two : ℕ → Sender
after_two t = idle 2 t ([] sent_at 300 ∷ A sent_at 0 ∷ []) 300 1

abbrev pub after_three : ℕ → Sender
after_three t = idle 2 t ([] sent_at 600 ∷ [] sent_at 300 ∷ A sent_at 0 ∷ []) 600 2

unfoldable pub table : List TestRow
table =
    test_row T1 (step just_opened [])
    (steps (refused 10) (refuses 10) [] just_opened)
    ∷ test_row T2 (step just_opened (0x80 ∷ 0x62 ∷ replicate 10 0))
    (steps (read no_m 0 0 0 [] []) (given 0 (pos 0) 0 1 12 12) [] (expecting 0 1))
    ∷ test_row T3 (step just_opened whole)
    (steps (read no_m 5 1000 0x11223344 (ago 300 A ∷ []) []) (given 0 (pos 0) 1 2 17 18) A (expecting 0x11223344 6))
    ∷ test_row T4 (step (expecting 0x11223344 6) whole)
    (steps (read no_m 5 1000 0x11223344 (ago 300 A ∷ []) []) (is_late (negsuc 0)) [] (expecting 0x11223344 6))
    ∷ test_row T5 (step (expecting 0 6) (redundant 0 9 two))
    (steps (read no_m 9 0 0 (ago 600 A ∷ ago 300 B ∷ []) C) (given 1 (pos 3) 2 3 21 24) (A ++ B ++ C) (expecting 0 10))
    ∷ test_row T6 (step (expecting 0 65535) (redundant 0 0 one))
    (steps (read no_m 0 0 0 (ago 300 A ∷ []) []) (given 0 (pos 1) 1 2 17 18) A (expecting 0 1))
    ∷ test_row T7 (step (expecting 0 6) (plain 0x80 0x05 []))
    (steps (read no_m 32773 0 0 [] []) (is_jump (pos 32767)) [] (keeping (expecting 0 6) 32774))
    ∷ test_row T8 (step (expecting 0 6) (plain 0x80 0x06 []))
    (steps (read no_m 32774 0 0 [] []) (is_jump (negsuc 32767)) [] (keeping (expecting 0 6) 32775))
    ∷ test_row T9 (step just_opened (plain 0 0 (0xED ∷ 0xA0 ∷ 0x80 ∷ [])))
    (steps (refused 21) (refuses 21) [] just_opened)
    ∷ test_row T10 (step just_opened (plain 0 0 (0xF4 ∷ 0x8F ∷ 0xBF ∷ 0xBF ∷ [])))
    (steps (read no_m 0 0 0 [] (0xF4 ∷ 0x8F ∷ 0xBF ∷ 0xBF ∷ [])) (given 0 (pos 0) 0 1 12 16) (0xF4 ∷ 0x8F ∷ 0xBF ∷ 0xBF ∷ []) (expecting 0 1))
    ∷ test_row T11 (offer (opened 2) 0 A)
    (offers 0 (waiting_a 2))
    ∷ test_row T11 (clock (waiting_a 2) 0)
    (clocks (answers.sent 14) (read M 65535 1000 7 [] A ∷ []) (after_one 2 0))
    ∷ test_row T11 (clock (after_one 2 0) 299)
    (clocks answers.quiet [] (after_one 2 299))
    ∷ test_row T11 (clock (after_one 2 299) 300)
    (clocks (answers.sent 18) (read no_m 0 1300 7 (ago 300 A ∷ []) [] ∷ []) (after_two 300))
    ∷ test_row T11 (clock (after_two 300) 600)
    (clocks (answers.sent 22) (read no_m 1 1600 7 (ago 600 A ∷ ago 300 [] ∷ []) [] ∷ []) (after_three 600))
    ∷ test_row T11 (clock (after_three 600) 900)
    (clocks answers.quiet [] (after_three 900))
    ∷ test_row T12 (offer (opened 1) 0 A)
    (offers 0 (waiting_a 1))
    ∷ test_row T12 (clock (waiting_a 1) 0)
    (clocks (answers.sent 14) (read M 65535 1000 7 [] A ∷ []) (after_one 1 0))
    ∷ test_row T12 (clock (after_one 1 0) 16383)
    (clocks (answers.sent 18) (read no_m 0 17383 7 (ago 16383 A ∷ []) [] ∷ []) (idle 1 16383 ([] sent_at 16383 ∷ A sent_at 0 ∷ []) 16383 1))
    -- "at 16,384 instead"
    ∷ test_row T12 (clock (after_one 1 0) 16384)
    (clocks answers.quiet [] (after_one 1 16384))
    ∷ []

abbrev pub LineTests : Type 0
LineTests = Every (λ (r : TestRow). outcome_of r.call ≡ r.outcome) table
