-- What the exported calls of a receiver that holds say: their number, and the two records lent to them.
use Rattle.std.specs.Prelude.{ℕ, ◌≡◌, Bool, false, cond, ℤ, pos, Result, Ok, Err}
use Rattle.base.specs.Flags.{is_set, bit}
use Rattle.boundary.specs.declared.Step.{Step}
use Rattle.boundary.specs.Receiving.{held_in, lent_record, forward_course, late_course, jump_course, break_course, nothing_given, some_given}
use Rattle.packet.specs.declared.Refusal.{Refusal}
use Rattle.packet.specs.Refusal.{number}
use Rattle.receiver.specs.declared.Advanced.{Advanced}
use Rattle.holding_spec.specs.State.{HoldingReceiver, zero_holding}
use Rattle.holding_spec.specs.Answers as holding
use Rattle.holding_spec.specs.Answers.{HoldingOpening, Which, neither, held, new, HoldingAnswer, refuses, waits, is_late, is_jump, is_break, gives, was_refused}
use Rattle.holding_boundary.specs.declared.HoldingRecord.{HoldingRecord}
use Rattle.holding_boundary.specs.declared.HoldingStep.{HoldingStep}

-- the receiver that a record holds
abbrev pub held_holding : HoldingRecord → HoldingReceiver
held_holding r = record { receiver = held_in r.receiver; has_held = is_set r.has_held; held = r.held; arrival = r.arrival; clock = r.clock }

-- the same without what is lent beside a cleared flag
abbrev pub known : HoldingReceiver → HoldingReceiver
known s = record { receiver = s.receiver; has_held = s.has_held; held = cond s.has_held s.held 0; arrival = cond s.has_held s.arrival 0; clock = s.clock }

abbrev pub lent_holding : HoldingReceiver → HoldingRecord
lent_holding s = record { receiver = lent_record s.receiver; has_held = bit s.has_held; held = s.held; arrival = s.arrival; clock = s.clock }

abbrev pub which_byte : Which → ℕ
which_byte neither = 0
which_byte held = 1
which_byte new = 2

abbrev pub gives_nothing : ℕ → ℤ → Which → HoldingStep
gives_nothing course z keep = record { of = which_byte neither; keep = which_byte keep; again = 0; step = nothing_given course z }

abbrev pub gives_some : Which → Which → Bool → Step → HoldingStep
gives_some of keep again step = record { of = which_byte of; keep = which_byte keep; again = bit again; step = step }

-- a refused call has nothing to tell; what is held is still to be kept
abbrev pub answer_record : HoldingAnswer → HoldingStep
answer_record (refuses n) = gives_nothing forward_course (pos 0) held
answer_record (waits z keep) = gives_nothing forward_course z keep
answer_record (is_late z keep) = gives_nothing late_course z keep
answer_record (is_jump z keep) = gives_nothing jump_course z keep
answer_record (is_break g) = gives_some new neither false (some_given break_course g)
answer_record (gives of keep again g) = gives_some of keep again (some_given forward_course g)

-- 0 where the call is accepted
abbrev pub answer_number : HoldingAnswer → ℕ
answer_number (refuses n) = n
answer_number (waits z keep) = 0
answer_number (is_late z keep) = 0
answer_number (is_jump z keep) = 0
answer_number (is_break g) = 0
answer_number (gives of keep again g) = 0

-- an opening: the record that it leaves, or a refusal
abbrev pub Opens : HoldingOpening → Result HoldingRecord Refusal → Type 0
Opens o (Ok r) = (o.number ≡ 0) × (r ≡ lent_holding o.receiver)
Opens o (Err e) = (o.number ≡ number e) × (o.receiver ≡ zero_holding)

-- an accepted call leaves two records
pub record Leaves (s : holding.HoldingStep) (r : Advanced HoldingRecord HoldingStep) : Type 0 where
  pub refused : was_refused s.answer ≡ false
  pub number : answer_number s.answer ≡ 0
  pub receiver : r.receiver ≡ lent_holding s.receiver
  pub step : r.answer ≡ answer_record s.answer

abbrev pub Tells : holding.HoldingStep → Result (Advanced HoldingRecord HoldingStep) Refusal → Type 0
Tells s (Ok r) = Leaves s r
Tells s (Err e) = s.answer ≡ refuses (number e)

-- the two records behind a call: as they were, where it is refused
abbrev pub receiver_behind : holding.HoldingStep → HoldingRecord → HoldingRecord
receiver_behind s before = cond (was_refused s.answer) before (lent_holding s.receiver)

abbrev pub step_behind : HoldingAnswer → HoldingStep → HoldingStep
step_behind a before = cond (was_refused a) before (answer_record a)
