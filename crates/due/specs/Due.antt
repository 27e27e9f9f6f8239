-- What is due: marks, and a part of a lent packet.
use Rattle.std.specs.Prelude.{ℕ, ◌+◌, ◌-◌, Bool, ◌&&◌, List, leb, eqb}
use Rattle.base.specs.Arrays.{part}
use Rattle.receiver_spec.specs.Answers.{gives, is_break, is_jump, is_late, refuses, StepAnswer}
use Rattle.journal_spec.specs.Contents.{longest_packet}
use Rattle.printing.specs.Fitting.{marks_fitting, text_fitting}
use Rattle.due.specs.declared.Due.{Due}

abbrev pub empty_due : Due
empty_due = record { marks = 0; from = 0; to = 0 }

-- the first n bytes of the packet
abbrev pub line_due : ℕ → Due
line_due n = record { marks = 0; from = 0; to = n }

-- the blocks lost are marks
abbrev pub due_of : StepAnswer → Due
due_of (refuses n) = empty_due
due_of (is_late z) = empty_due
due_of (is_jump z) = empty_due
due_of (is_break g) = record { marks = g.loss; from = g.from; to = g.to }
due_of (gives g) = record { marks = g.loss; from = g.from; to = g.to }

abbrev pub none_due : Due → Bool
none_due d = eqb d.marks 0 && leb d.to d.from

abbrev pub due_within : Due → Bool
due_within d = leb d.from d.to && leb d.to longest_packet

abbrev pub text_due : Due → List ℕ → List ℕ
text_due d p = part d.from d.to p

-- what is left of it, once it went into a space of n bytes
abbrev pub left_of : Due → List ℕ → ℕ → Due
left_of d p n = record {
  marks = d.marks - marks_fitting d.marks n;
  from = d.from + text_fitting d.marks (text_due d p) n;
  to = d.to;
}
