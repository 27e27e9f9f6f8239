-- What a step made of a packet.
use Rattle.std.specs.Prelude.{Bool, true, false}
use Rattle.receiver_spec.specs.Answers.{StepAnswer, refuses, is_late, is_jump, is_break, gives}

abbrev pub was_refused : StepAnswer → Bool
was_refused (refuses n) = true
was_refused (is_late z) = false
was_refused (is_jump z) = false
was_refused (is_break g) = false
was_refused (gives g) = false

abbrev pub was_late : StepAnswer → Bool
was_late (refuses n) = false
was_late (is_late z) = true
was_late (is_jump z) = false
was_late (is_break g) = false
was_late (gives g) = false

abbrev pub was_jump : StepAnswer → Bool
was_jump (refuses n) = false
was_jump (is_late z) = false
was_jump (is_jump z) = true
was_jump (is_break g) = false
was_jump (gives g) = false
