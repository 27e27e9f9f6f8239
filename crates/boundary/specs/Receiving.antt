-- What the exported step says: its number, and the two records lent to it.
use Rattle.std.specs.Prelude.{ℕ, ℤ, pos}
use Rattle.base.specs.Flags.{is_set, bit}
use Rattle.receiver_spec.specs.State.{Receiver}
use Rattle.receiver_spec.specs.Answers as Stepping
use Rattle.receiver_spec.specs.Answers.{Given, gives, is_break, is_jump, is_late, refuses, StepAnswer}
use Rattle.boundary.specs.declared.ReceiverRecord.{ReceiverRecord}
use Rattle.boundary.specs.declared.Step.{Step}

-- the receiver that a record holds
abbrev pub held_in : ReceiverRecord → Receiver
held_in r = record {
  t140 = r.t140;
  red = r.red;
  has_source = is_set r.has_source;
  source = r.source;
  expected = r.expected;
  has_kept = is_set r.has_kept;
  kept = r.kept;
}

abbrev pub lent_record : Receiver → ReceiverRecord
lent_record r = record {
  t140 = r.t140;
  red = r.red;
  has_source = bit r.has_source;
  has_kept = bit r.has_kept;
  source = r.source;
  expected = r.expected;
  kept = r.kept;
}

-- 0 where the packet is accepted, whatever its course
abbrev pub step_number : StepAnswer → ℕ
step_number (refuses n) = n
step_number (is_late z) = 0
step_number (is_jump z) = 0
step_number (is_break g) = 0
step_number (gives g) = 0

-- the courses as a record tells them
abbrev pub forward_course : ℕ
forward_course = 0

abbrev pub late_course : ℕ
late_course = 1

abbrev pub jump_course : ℕ
jump_course = 2

abbrev pub break_course : ℕ
break_course = 3

-- a packet that gives nothing has its distance alone
abbrev pub nothing_given : ℕ → ℤ → Step
nothing_given course z = record { course = course; loss = 0; distance = z; older = 0; given = 0; from = 0; to = 0 }

-- one that gives blocks has what it gives
abbrev pub some_given : ℕ → Given → Step
some_given course g = record {
  course = course;
  loss = g.loss;
  distance = g.distance;
  older = g.older;
  given = g.given;
  from = g.from;
  to = g.to;
}

-- a refused packet has nothing to tell
abbrev pub step_record : StepAnswer → Step
step_record (refuses n) = nothing_given forward_course (pos 0)
step_record (is_late z) = nothing_given late_course z
step_record (is_jump z) = nothing_given jump_course z
step_record (is_break g) = some_given break_course g
step_record (gives g) = some_given forward_course g

-- the step's record after a call: as it was, where the packet is refused
abbrev pub step_behind : StepAnswer → Step → Step
step_behind (refuses n) before = before
step_behind (is_late z) before = step_record (is_late z)
step_behind (is_jump z) before = step_record (is_jump z)
step_behind (is_break g) before = step_record (is_break g)
step_behind (gives g) before = step_record (gives g)

abbrev record_by : StepAnswer → Receiver → ReceiverRecord → ReceiverRecord
record_by (refuses n) r before = before
record_by (is_late z) r before = before
record_by (is_jump z) r before = lent_record r
record_by (is_break g) r before = lent_record r
record_by (gives g) r before = lent_record r

-- the receiver's record after a call: as it was, where the packet is refused or late
abbrev pub receiver_behind : Stepping.Step → ReceiverRecord → ReceiverRecord
receiver_behind s before = record_by s.answer s.receiver before
