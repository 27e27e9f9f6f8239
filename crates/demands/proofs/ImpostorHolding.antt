-- Receivers that hold wrongly, each with the demand or the clause of `Holding` that it fails, by computing one case. Each is our line
-- with another call.
use Prim.Native.Nat.{ℕ, ◌+◌, ◌-◌}
use mathlib.Core.Path.{◌≡◌, refl, ap}
use mathlib.Core.List.{List, [], ◌∷◌}
use mathlib.Core.Bool.{false, cond}
use mathlib.Core.Logic.{inr}
use mathlib.Core.Option.{Option, none, some}
use native.Mathlib.Omega.{arith}
use lib.IntN.{pos}
use lib.ListN.{length}
use Rattle.base.specs.Checks.{number_by}
use Rattle.base.specs.Flags.{bit}
use Rattle.packet_spec.specs.Redundancy.{headers}
use Rattle.packet_spec.specs.Reading.{Content, holds, reading}
use Rattle.delivery.specs.Record.{Entry}
use Rattle.delivery.specs.Course.{forward, break}
use Rattle.receiver_spec.specs.State.{keeping, keeping_none, read_by}
use Rattle.receiver_spec.specs.Step.{step_of}
use Rattle.receiver_spec.proofs.CourseTests.{newest}
use Rattle.holding_spec.specs.State.{HoldingReceiver, holds_none, holds_one, holding_checks}
use Rattle.holding_spec.specs.Answers.{neither, held, new, HoldingAnswer, refuses, waits, is_late, is_jump, is_break, gives, HoldingStep, was_refused}
use Rattle.holding_spec.specs.Step.{called, holding_step}
use Rattle.holding_spec.specs.Internal.PlainStep.{told}
use Rattle.holding_spec.proofs.HoldingTests.{one}
use Rattle.receiver_spec.specs.Answers.{Given}
use Rattle.demands.specs.Line.{Line}
use Rattle.demands.specs.Ours.{ours}
use Rattle.demands.specs.Courses.{HasCourse}
use Rattle.demands.specs.Demand1.{Demand1}
use Rattle.demands.specs.Demand3.{Demand3}
use Rattle.demands.specs.Holding.{NoneHeld, OneHeld, Behind, Holding}

abbrev Calls : Type 0
Calls = HoldingReceiver → ℕ → List ℕ → Option (List ℕ) → HoldingStep

abbrev with_holding : Calls → Line
with_holding hold = record {
  text = ours.text;
  read = ours.read;
  block = ours.block;
  open_receiver = ours.open_receiver;
  step = ours.step;
  hand_out = ours.hand_out;
  open_holding = ours.open_holding;
  hold = hold;
  hand_out_either = ours.hand_out_either;
  open_sender = ours.open_sender;
  offer = ours.offer;
  clock = ours.clock;
}

-- 8 is held since clock 10, where 5 is the newest; a copy of 8, and one with the number 10,001 kept
abbrev eight : HoldingReceiver
eight = holds_one (newest 5) 8 10 10

abbrev awaiting : HoldingReceiver
awaiting = holds_one (keeping (newest 5) 10001) 8 10 10

-- what is read of `one n`
abbrev content_of : ℕ → ℕ → Content
content_of n x = record { marker = false; sequence = n; timestamp = 0; source = 7; older = []; primary = x ∷ [] }

-- the entries of the record that a call adds, counted
abbrev count : {x y : List Entry} → x ≡ y → ◌≡◌ {A = ℕ} (length x) (length y)
count e = ap (λ (l : List Entry). length l) e

reads_eight : read_by (newest 5) (one 8) ≡ holds (content_of 8 0x49)
unfolding reading headers
reads_eight = refl

abbrev ahead : HasCourse (newest 5) (one 8) forward
ahead = record { content = content_of 8 0x49; read = reads_eight; sourced = refl; course_is = refl }

abbrev lent_back_lem : (t : ℕ) → number_by (holding_checks eight t (one 8)) ≡ 0 → OneHeld eight t (one 8)
lent_back_lem t e = record { passes = e; is_one = refl; ahead = ahead }

-- holds nothing back: 8 is answered as by the plain step
abbrev at_once : Calls
at_once s t lent none = holding_step s t lent none
at_once s t lent (some p) = record { receiver = holds_none (step_of s.receiver p).receiver t; answer = told new neither false (step_of s.receiver p).answer }

pub at_once_fails : Holding (with_holding at_once) → ⊥
unfolding holding_step step_of reading headers
at_once_fails c =
    let n : NoneHeld (holds_none (newest 5) 0) 10 [] = record { passes = refl; is_none = refl } in
    let z : ◌≡◌ {A = ℕ} 3 0 = count (c.held_back (holds_none (newest 5) 0) 10 [] (one 8) (content_of 8 0x49) n refl (omega arith)).0 in
    omega arith

-- never gives what it holds
abbrev for_ever : Calls
for_ever s t lent none = record { receiver = s; answer = waits (pos 0) (cond s.has_held held neither) }
for_ever s t lent (some p) = holding_step s t lent (some p)

pub for_ever_fails : Holding (with_holding for_ever) → ⊥
unfolding holding_step step_of reading headers
for_ever_fails c =
    let z : ◌≡◌ {A = ℕ} 0 3 = count (c.due eight 1010 (one 8) (lent_back_lem 1010 refl) (inr (omega arith))).0 in
    omega arith

-- waits for 999 ms
abbrev since : HoldingReceiver → ℕ → HoldingReceiver
since s a = record { receiver = s.receiver; has_held = s.has_held; held = s.held; arrival = a; clock = s.clock }

abbrev impatient : Calls
impatient s t lent p = holding_step (since s (s.arrival - 1)) t lent p

pub impatient_fails : Holding (with_holding impatient) → ⊥
unfolding holding_step step_of reading headers
impatient_fails c =
    let z : ◌≡◌ {A = ℕ} 3 0 = count (c.waits eight 1009 (one 8) (lent_back_lem 1009 refl) (omega arith) (omega arith)).0 in
    omega arith

-- counts the time of what it holds anew with each packet: text that comes too late for one packet waits for ever
abbrev renewing : Calls
renewing s t lent none = holding_step s t lent none
renewing s t lent (some p) = record { receiver = since (holding_step s t lent (some p)).receiver t; answer = (holding_step s t lent (some p)).answer }

pub renewing_fails : Holding (with_holding renewing) → ⊥
unfolding holding_step step_of reading headers
renewing_fails c =
    let h : Behind eight 20 (one 8) (one 6) forward =
    record { one = lent_back_lem 20 refl; packet = record { content = content_of 6 0x47; read = refl; sourced = refl; course_is = refl }; other = λ e. omega arith } in
    let z : ◌≡◌ {A = ℕ} 20 10 = ap (λ (x : HoldingReceiver). x.arrival) (c.nearer eight 20 (one 8) (one 6) h (omega arith)).1 in
    omega arith

-- gives what arrives, and keeps what it holds: 10 goes out before 8
abbrev leaping : Calls
leaping s t lent none = holding_step s t lent none
leaping s t lent (some p) = record { receiver = holds_one (step_of s.receiver p).receiver s.held s.arrival t; answer = told new held false (step_of s.receiver p).answer }

pub leaping_fails : Holding (with_holding leaping) → ⊥
unfolding holding_step step_of reading headers
leaping_fails c =
    let h : Behind eight 20 (one 8) (one 10) forward =
    record { one = lent_back_lem 20 refl; packet = record { content = content_of 10 0x4B; read = refl; sourced = refl; course_is = refl }; other = λ e. omega arith } in
    let z : ◌≡◌ {A = ℕ} 5 3 = count (c.farther eight 20 (one 8) (one 10) h (omega arith)).0 in
    omega arith

-- with the number 10,001 kept: the break that sends the held packet out clears it, and given again the packet is only a jump
abbrev clearing : Calls
clearing s t lent p = record { receiver = holds_none (keeping_none (holding_step s t lent p).receiver.receiver) t; answer = (holding_step s t lent p).answer }

pub clearing_fails : Holding (with_holding clearing) → ⊥
unfolding holding_step step_of reading headers
clearing_fails c =
    let h : Behind awaiting 20 (one 8) (one 10001) break =
    record { one = record { passes = refl; is_one = refl; ahead = ahead }; packet = record { content = content_of 10001 0x52; read = refl; sourced = refl; course_is = refl }; other = λ e. omega arith } in
    let z : ◌≡◌ {A = ℕ} 0 1 = ap (λ (x : HoldingReceiver). bit x.receiver.has_kept) (c.before_break awaiting 20 (one 8) (one 10001) h).1 in
    omega arith

-- does not ask for the packet of a break again: its text is lost
abbrev unasked : HoldingAnswer → HoldingAnswer
unasked (refuses n) = refuses n
unasked (waits z keep) = waits z keep
unasked (is_late z keep) = is_late z keep
unasked (is_jump z keep) = is_jump z keep
unasked (is_break g) = is_break g
unasked (gives of keep again g) = gives of keep false g

abbrev unasking : Calls
unasking s t lent p = record { receiver = (holding_step s t lent p).receiver; answer = unasked (holding_step s t lent p).answer }

pub unasking_fails : Holding (with_holding unasking) → ⊥
unfolding holding_step step_of reading headers
unasking_fails c =
    let h : Behind awaiting 20 (one 8) (one 10001) break =
    record { one = record { passes = refl; is_one = refl; ahead = ahead }; packet = record { content = content_of 10001 0x52; read = refl; sourced = refl; course_is = refl }; other = λ e. omega arith } in
    let z : ◌≡◌ {A = ℕ} 0 1 = ap bit (c.before_break awaiting 20 (one 8) (one 10001) h).2 in
    omega arith

-- a copy of the held packet sends it out
abbrev doubling : Calls
doubling s t lent none = holding_step s t lent none
doubling s t lent (some p) = holding_step (since s 0) (t + 1000) lent none

pub doubling_fails : Holding (with_holding doubling) → ⊥
unfolding holding_step step_of reading headers
doubling_fails c =
    let z : ◌≡◌ {A = ℕ} 3 0 = count (c.copy_late eight 20 (one 8) (one 8) (content_of 8 0x49) (lent_back_lem 20 refl) refl refl).0 in
    omega arith

-- trusts what it is lent: any bytes are the packet held
abbrev trustful : Calls
trustful s t lent p = called s t lent p

pub trustful_fails : Demand1 (with_holding trustful) → ⊥
unfolding holding_step reading headers
trustful_fails d =
    let z : ◌≡◌ {A = ℕ} 0 1 = ap (λ (a : HoldingAnswer). bit (was_refused a)) (d.hold_number eight 10 [] none 26 refl) in
    omega arith

-- keeps the clock of a refused call: one wrong clock, and all calls behind it are refused
abbrev keeps_clock : Calls
keeps_clock s t lent p = record {
  receiver = cond (was_refused (holding_step s t lent p).answer) (holds_one s.receiver s.held s.arrival t) (holding_step s t lent p).receiver;
  answer = (holding_step s t lent p).answer;
}

pub keeps_clock_fails : Demand1 (with_holding keeps_clock) → ⊥
unfolding holding_step reading headers
keeps_clock_fails d =
    let z : ◌≡◌ {A = ℕ} 9000 10 = ap (λ (s : HoldingReceiver). s.clock) (d.hold_refused eight 9000 [] none refl) in
    omega arith

-- another answer where blocks are given
abbrev answering : (Given → Given) → HoldingStep → HoldingAnswer → HoldingStep
answering f x (refuses n) = x
answering f x (waits z keep) = x
answering f x (is_late z keep) = x
answering f x (is_jump z keep) = x
answering f x (is_break g) = x
answering f x (gives of keep again g) = record { receiver = x.receiver; answer = gives of keep again (f g) }

-- writes no marks
abbrev unmarked : Calls
unmarked s t lent p =
    answering (λ g. record { loss = 0; distance = g.distance; older = g.older; given = g.given; from = g.from; to = g.to })
    (holding_step s t lent p) (holding_step s t lent p).answer

pub unmarked_fails : Holding (with_holding unmarked) → ⊥
unfolding holding_step step_of reading headers
unmarked_fails c =
    let z : ◌≡◌ {A = ℕ} 1 3 = count (c.due eight 1010 (one 8) (lent_back_lem 1010 refl) (inr (omega arith))).0 in
    omega arith

-- hands out of the other packet
abbrev other_text : Line
other_text = record {
  text = ours.text;
  read = ours.read;
  block = ours.block;
  open_receiver = ours.open_receiver;
  step = ours.step;
  hand_out = ours.hand_out;
  open_holding = ours.open_holding;
  hold = ours.hold;
  hand_out_either = λ lent p a. ours.hand_out_either p lent a;
  open_sender = ours.open_sender;
  offer = ours.offer;
  clock = ours.clock;
}

pub other_text_fails : Demand3 other_text → ⊥
unfolding holding_step reading headers
other_text_fails d =
    let z : ◌≡◌ {A = ℕ} 0 1 = ap (λ (l : List ℕ). length l) (d.holding_text eight 1010 (one 8) none) in
    omega arith
