-- Tables of calls on a sender: each call on what the one before it left, and what it answers. T140 is 98, RED 100, and what
-- a packet holds is what the reader says.
use Prim.Native.Nat.{ℕ, zero, suc, ◌-◌}
use mathlib.Core.Path.{◌≡◌}
use mathlib.Core.List.{List, [], ◌∷◌, map}
use mathlib.Core.Bool.{Bool, true, false}
use lib.ListN.{replicate, take}
use Rattle.packet_spec.specs.Limits.{level}
use Rattle.packet_spec.specs.Header.{Any}
use Rattle.packet_spec.specs.Redundancy.{Block}
use Rattle.packet_spec.specs.Reading.{Read, holds, reading}
use Rattle.sender_spec.specs.State.{Settings, Sender}
use Rattle.sender_spec.specs.Answers
use Rattle.sender_spec.specs.Answers.{ClockAnswer, ClockResult}
use Rattle.sender_spec.specs.Calls.{open_sender, offer_of, clock_of}

-- level, buffering time, rate, T140 and RED
abbrev pub rated : ℕ → ℕ → ℕ → ℕ → ℕ → Settings
rated r b cps t140 red = record { level = r; buffering = b; rate = cps; t140 = t140; red = red; sequence = 65535; timestamp = 1000; source = 7 }

-- at the usual rate
abbrev pub typed : ℕ → ℕ → ℕ → ℕ → Settings
typed r b t140 red = rated r b 30 t140 red

-- Calls on one sender, each on what the one before it left: the call, and what is answered.

pub data Call : Type 0 where
  -- at a clock, a text
  offer : ℕ → List ℕ → Call
  -- at a clock, into a lent space of so many bytes
  clock_in : ℕ → ℕ → Call

abbrev pub clock : ℕ → Call
clock t = clock_in t 1472

pub data Told : Type 0 where
  accepted quiet : Told
  refused : ℕ → Told
  -- the packet's length, and what it is read as
  sent : ℕ → Read → Told

pub record Row : Type 0 where
  pub call : Call
  pub answer : Told

infixl 68 ◌answers◌
abbrev pub ◌answers◌ : Call → Told → Row
c answers a = record { call = c; answer = a }

abbrev pub told_number : ℕ → Told
told_number zero = accepted
told_number (suc n) = refused (suc n)

abbrev pub told_packet : ClockAnswer → List ℕ → Told
told_packet (Answers.refused n) p = refused n
told_packet Answers.quiet p = quiet
told_packet (Answers.sent n) p = sent n (reading level Any 98 100 (take n p))

abbrev pub clock_call : Sender → ℕ → ℕ → ClockResult
clock_call s t n = clock_of s t (replicate n 0xEE)

abbrev pub told : Sender → Call → Told
told s (offer t x) = told_number (offer_of s t x).number
told s (clock_in t n) = let r = clock_call s t n in told_packet r.answer r.lent

abbrev pub after : Sender → Call → Sender
after s (offer t x) = (offer_of s t x).sender
after s (clock_in t n) = (clock_call s t n).sender

abbrev pub answers_from : Sender → List Row → List Told
answers_from s [] = []
answers_from s (r ∷ rs) = told s r.call ∷ answers_from (after s r.call) rs

pub record Case : Type 0 where
  pub start : Sender
  pub rows : List Row

abbrev pub from : Sender → List Row → Case
from s rs = record { start = s; rows = rs }

abbrev pub CasesHold : List Case → Type 0
CasesHold [] = Unit {0}
CasesHold (c ∷ cs) = (answers_from c.start c.rows ≡ map (λ r. r.answer) c.rows) × CasesHold cs

-- level, buffering time and rate; the first sequence number is 65,535, the first timestamp 1000
abbrev pub opened_at : ℕ → ℕ → ℕ → Sender
opened_at r b cps = (open_sender (rated r b cps 98 100)).sender

-- at the usual rate
abbrev pub opened : ℕ → ℕ → Sender
opened r b = opened_at r b 30

abbrev pub A : List ℕ
A = 0x41 ∷ []

abbrev pub B : List ℕ
B = 0x42 ∷ []

abbrev pub letters : ℕ → List ℕ
letters n = replicate n 0x41

abbrev pub not_text : ℕ → List ℕ
not_text n = replicate n 0xC0

abbrev pub M : Bool
M = true

abbrev pub no_m : Bool
no_m = false

-- an older block, sent so many ms ago
abbrev pub ago : ℕ → List ℕ → Block
ago o x = record { offset = o; bytes = x }

-- a packet read: marker, sequence number, timestamp, older blocks, primary
abbrev pub holding : Bool → ℕ → ℕ → List Block → List ℕ → Read
holding m n t older x = holds (record { marker = m; sequence = n; timestamp = t; source = 7; older = older; primary = x })

-- 2^64 - n, a clock n ms before the 64 bits end
abbrev pub before_end : ℕ → ℕ
before_end n = 18446744073709551616 - n
