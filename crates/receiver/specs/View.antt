-- The receiver and its answers in the terms of the definitions.
use Rattle.std.specs.Prelude.{ℕ, List, [], Result, Ok, Err}
use Rattle.receiver.specs.declared.Receiver as code
use Rattle.receiver.specs.declared.Given as answer
use Rattle.receiver.specs.declared.Answer.{Answer}
use Rattle.receiver.specs.declared.Answer.TheVariants.{Late, Jump, Break, Forward}
use Rattle.receiver.specs.declared.Advanced.{Advanced}
use Rattle.receiver.specs.declared.Stepped.{Stepped}
use Rattle.packet.specs.declared.Refusal.{Refusal}
use Rattle.packet.specs.Refusal.{number}
use Rattle.receiver_spec.specs.Opening.{receiver_refused}
use Rattle.receiver_spec.specs.Answers.{Given, Opening, Step, gives, is_break, is_jump, is_late, refuses, StepAnswer}
use Rattle.receiver_spec.specs.State.{Receiver}
use Rattle.receiver_spec.specs.Step.{step_of, text_given}

abbrev pub receiver_of : code.Receiver → Receiver
receiver_of r = record {
  t140 = r.t140;
  red = r.red;
  has_source = r.has_source;
  source = r.source;
  expected = r.expected;
  has_kept = r.has_kept;
  kept = r.kept;
}

abbrev pub opening : Result code.Receiver Refusal → Opening
opening (Ok r) = record { number = 0; receiver = receiver_of r }
opening (Err e) = receiver_refused (number e)

abbrev pub given_of : answer.Given → Given
given_of g = record { loss = g.loss; distance = g.distance; older = g.older; given = g.given; from = g.from; to = g.to }

-- 01's values for each case of an answer
abbrev pub step_answer : Answer → StepAnswer
step_answer (Late d) = is_late d
step_answer (Jump d) = is_jump d
step_answer (Break g) = is_break (given_of g)
step_answer (Forward g) = gives (given_of g)

-- and 01's number of a refusal
abbrev pub answered : Result Answer Refusal → StepAnswer
answered (Ok a) = step_answer a
answered (Err e) = refuses (number e)

-- what an accepted packet makes of a receiver
abbrev pub step_made : Advanced code.Receiver Answer → Step
step_made a = record { receiver = receiver_of a.receiver; answer = step_answer a.answer }

-- a step from this receiver, which a refusal leaves as it was
abbrev pub advanced : Receiver → Result (Advanced code.Receiver Answer) Refusal → Step
advanced r (Ok a) = step_made a
advanced r (Err e) = record { receiver = r; answer = refuses (number e) }

-- the step with its text: the receiver for the next packet, the answer, and the bytes handed out
pub record Handed : Type 0 where
  pub step : Step
  pub text : List ℕ

abbrev pub handed : Receiver → Result (Stepped code.Receiver Answer) Refusal → Handed
handed r (Ok s) = record { step = record { receiver = receiver_of s.receiver; answer = step_answer s.answer }; text = s.text.now }
handed r (Err e) = record { step = record { receiver = r; answer = refuses (number e) }; text = [] }

abbrev pub handed_of : Receiver → List ℕ → Handed
handed_of r p = record { step = step_of r p; text = text_given p (step_of r p).answer }
