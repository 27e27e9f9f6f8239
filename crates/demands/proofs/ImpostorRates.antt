-- Senders that do not keep the rate, each with the field of `Rate` that it fails, by computing one list of calls.
use Prim.Native.Nat.{ℕ, ◌+◌, ◌-◌, ◌≤◌}
use mathlib.Core.Path.{refl}
use mathlib.Core.List.{List, [], ◌∷◌, ◌++◌}
use mathlib.Core.Bool.{cond}
use native.Mathlib.Omega.{arith}
use lib.Dec.{eqb}
use lib.ListN.{length, take, drop, replicate}
use Rattle.packet_spec.specs.Limits.{level}
use Rattle.packet_spec.specs.Redundancy.{headers}
use Rattle.packet_spec.specs.Reading.{reading}
use Rattle.sender_spec.specs.State.{Settings, Sender}
use Rattle.sender_spec.specs.Rate.{limit_of}
use Rattle.sender_spec.specs.Answers as answers
use Rattle.sender_spec.specs.Answers.{ClockAnswer, ClockResult}
use Rattle.sender_spec.specs.Settings.{settings_number}
use Rattle.sender_spec.specs.Packets.{going, taken}
use Rattle.sender_spec.specs.Calls.{open_sender, offer_of, clock_of, clock_refused, clock_quiet}
use Rattle.demands.specs.Line.{Line}
use Rattle.demands.specs.Sending.{Call, offer, clock}
use Rattle.demands.specs.Rate.{Rate}
use Rattle.demands.proofs.ImpostorReceivers.{space}
use Rattle.demands.proofs.ImpostorSenders.{with_sender}

-- at this level, rate 1: ten characters in a window
abbrev slow : ℕ → Settings
slow R = record { level = R; buffering = 1; rate = 1; t140 = 98; red = 100; sequence = 0; timestamp = 0; source = 7 }

-- so many letters `a`
abbrev letters : ℕ → List ℕ
letters n = replicate n 0x61

abbrev å : List ℕ
å = 0xC3 ∷ 0xA5 ∷ []

-- a sender with other times, or another room
abbrev with_times : Sender → List ℕ → Sender
with_times s times = record {
  settings = s.settings;
  clock = s.clock;
  waiting = s.waiting;
  characters = s.characters;
  since = s.since;
  kept = s.kept;
  times = times;
  progress = s.progress;
}

abbrev with_room : Sender → List ℕ → ℕ → Sender
with_room s waiting characters = record {
  settings = s.settings;
  clock = s.clock;
  waiting = waiting;
  characters = characters;
  since = s.since;
  kept = s.kept;
  times = s.times;
  progress = s.progress;
}

-- our line, but where a packet leaves these become the sender's times
abbrev logged_by : List ℕ → ClockResult → ClockAnswer → ClockResult
logged_by times r (answers.refused n) = r
logged_by times r answers.quiet = r
logged_by times r (answers.sent n) = record { answer = r.answer; sender = with_times r.sender times; lent = r.lent }

abbrev logging : (Sender → ℕ → List ℕ) → Line
logging f = with_sender offer_of (λ s t p. logged_by (f s t) (clock_of s t p) (clock_of s t p).answer)

-- so many characters more, at this time
abbrev spent : ℕ → ℕ → Sender → List ℕ
spent n t s = take (limit_of s.settings) (replicate n t ++ s.times)

-- ten letters at once, and one more 1 ms later
abbrev eleven : List Call
eleven = offer 0 (letters 10) ∷ clock 0 space ∷ offer 1 (letters 1) ∷ clock 1 space ∷ []

-- logs nothing
pub forgetful_fails : Rate (logging (λ s t. [])) → ⊥
unfolding reading headers open_sender settings_number offer_of clock_of level
forgetful_fails d = let z : 11 ≤ 10 = d.limit (slow 0) eleven refl 0 in omega arith

-- does not count its first character: one more than the limit
pub overdrawn_fails : Rate (logging (λ s t. spent (going s t - cond s.progress.sent 0 1) t s)) → ⊥
unfolding reading headers open_sender settings_number offer_of clock_of level
overdrawn_fails d = let z : 11 ≤ 10 = d.limit (slow 0) eleven refl 0 in omega arith

-- logs its characters 1 ms early, a window of 9,999: what left at 1 does not count at 10,001
pub early_fails : Rate (logging (λ s t. spent (going s t) (t - 1) s)) → ⊥
unfolding reading headers open_sender settings_number offer_of clock_of level
early_fails d =
    let calls = offer 1 (letters 10) ∷ clock 1 space ∷ offer 2 (letters 1) ∷ clock 10001 space ∷ [] in
    let z : 11 ≤ 10 = d.limit (slow 0) calls refl 1 in
    omega arith

-- 1 ms late, a window of 10,001: what left at 0 counts at 10,001
pub late_fails : Rate (logging (λ s t. spent (going s t) (t + 1) s)) → ⊥
unfolding reading headers open_sender settings_number offer_of clock_of level
late_fails d =
    let calls = offer 0 (letters 10) ∷ clock 0 space ∷ offer 1 (letters 1) ∷ [] in
    let z : 1 ≤ 0 = (d.quiet (slow 0) calls refl 10001 space (omega arith) refl).no_longer (letters 1) [] 1 refl refl (omega arith) in
    omega arith

-- counts bytes: five letters of two bytes each fill its window
pub bytes_counted_fails : Rate (logging (λ s t. spent (length (taken s t)) t s)) → ⊥
unfolding reading headers open_sender settings_number offer_of clock_of level
bytes_counted_fails d =
    let calls = offer 0 (å ++ å ++ å ++ å ++ å) ∷ clock 0 space ∷ offer 1 (letters 1) ∷ [] in
    let z : 1 ≤ 0 = (d.quiet (slow 0) calls refl 1 space (omega arith) refl).no_longer (letters 1) [] 1 refl refl (omega arith) in
    omega arith

-- sends what waits whole, or nothing of it: `a` left at 0, and nine of the next ten letters could
abbrev wholly : Sender → ℕ → List ℕ → ClockResult
wholly s t p =
    let r = clock_of (with_times s (replicate (limit_of s.settings) t)) t p in
    cond (eqb (going s t) s.characters) (clock_of s t p) (record { answer = r.answer; sender = with_times r.sender s.times; lent = r.lent })

pub wholly_fails : Rate (with_sender offer_of wholly) → ⊥
unfolding reading headers open_sender settings_number offer_of clock_of level
wholly_fails d =
    let calls = offer 0 (letters 1) ∷ clock 0 space ∷ offer 1 (letters 10) ∷ [] in
    let z : 9 ≤ 0 = (d.longest (slow 1) calls refl 1 space).0.no_longer (letters 9) (letters 1) 9 refl refl (omega arith) in
    omega arith

-- takes as many bytes as characters may go: its packet ends inside a letter, and no reader takes it
abbrev cut_by : Sender → ℕ → List ℕ → ClockResult → ClockAnswer → ClockResult
cut_by s t p r (answers.refused n) = clock_refused s p n
cut_by s t p r answers.quiet = clock_quiet s t p
cut_by s t p r (answers.sent n) = record { answer = r.answer; sender = with_room r.sender (drop (going s t) s.waiting) (s.characters - going s t); lent = r.lent }

abbrev cutting : Sender → ℕ → List ℕ → ClockResult
cutting s t p = let r = clock_of (with_room s (take (going s t) s.waiting) (going s t)) t p in cut_by s t p r r.answer

pub cutting_fails : Rate (with_sender offer_of cutting) → ⊥
unfolding reading headers open_sender settings_number offer_of clock_of level
cutting_fails d =
    let room = letters 1 ++ å in
    let z : 3 ≤ 0 = (d.longest (slow 0) (offer 0 room ∷ []) refl 0 space).0.no_longer room [] 2 refl refl (omega arith) in
    omega arith
