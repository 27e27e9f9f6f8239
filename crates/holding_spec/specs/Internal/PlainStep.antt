-- A call by the answer of the plain step. The demands do not speak of it; the code goes by it.
use Rattle.std.specs.Prelude.{ℕ, Bool, true, false}
use Rattle.receiver_spec.specs.State.{Receiver}
use Rattle.receiver_spec.specs.Answers as plain
use Rattle.receiver_spec.specs.Answers.{StepAnswer}
use Rattle.holding_spec.specs.State.{holds_one}
use Rattle.holding_spec.specs.Answers.{Which, held, new, HoldingAnswer, refuses, is_late, is_jump, is_break, gives, HoldingStep}

-- the step's answer to a packet, with the packet to keep
abbrev pub told : Which → Which → Bool → StepAnswer → HoldingAnswer
told of keep again (plain.refuses n) = refuses n
told of keep again (plain.is_late z) = is_late z keep
told of keep again (plain.is_jump z) = is_jump z keep
told of keep again (plain.is_break g) = is_break g
told of keep again (plain.gives g) = gives of keep again g

-- the step is made, and the held packet stays
abbrev pub stayed : Receiver → StepAnswer → ℕ → ℕ → ℕ → HoldingStep
stayed r a n arrival t = record { receiver = holds_one r n arrival t; answer = told new held false a }

abbrev pub was_forward : StepAnswer → Bool
was_forward (plain.refuses n) = false
was_forward (plain.is_late z) = false
was_forward (plain.is_jump z) = false
was_forward (plain.is_break g) = false
was_forward (plain.gives g) = true

abbrev pub was_break : StepAnswer → Bool
was_break (plain.refuses n) = false
was_break (plain.is_late z) = false
was_break (plain.is_jump z) = false
was_break (plain.is_break g) = true
was_break (plain.gives g) = false
