-- The receiver that holds and its answers in the terms of the definitions.
use Rattle.std.specs.Prelude.{ℕ, Bool, true, false, List, [], Option, Some, None, Result, Ok, Err}
use Rattle.std.proofs.Math.Option as definition
use Rattle.holding.specs.declared.HoldingReceiver as code
use Rattle.holding.specs.declared.Held.{Held}
use Rattle.holding.specs.declared.Which as code_which
use Rattle.holding.specs.declared.Which.TheVariants as code_which_is
use Rattle.holding.specs.declared.HoldingAnswer as code_answer
use Rattle.holding.specs.declared.HoldingAnswer.TheVariants.{Waits, Late, Jump, Break, Gives}
use Rattle.packet.specs.declared.Refusal.{Refusal}
use Rattle.packet.specs.Refusal.{number}
use Rattle.receiver.specs.declared.Advanced.{Advanced}
use Rattle.receiver.specs.declared.Stepped.{Stepped}
use Rattle.receiver.specs.View.{receiver_of, given_of}
use Rattle.holding_spec.specs.State.{HoldingReceiver}
use Rattle.holding_spec.specs.Opening.{holding_refused}
use Rattle.holding_spec.specs.Answers.{HoldingOpening, Which, neither, held, new, HoldingAnswer, refuses, waits, is_late, is_jump, is_break, gives, HoldingStep}
use Rattle.holding_spec.specs.Step.{refusing, holding_step, text_handed}
use Rattle.holding_spec.specs.Record.{new_bytes}

-- of the packet held: whether there is one, its number and its arrival, 0 where there is none
abbrev pub has_held : Option Held → Bool
has_held None = false
has_held (Some h) = true

abbrev pub number_held : Option Held → ℕ
number_held None = 0
number_held (Some h) = h.number

abbrev pub arrival_held : Option Held → ℕ
arrival_held None = 0
arrival_held (Some h) = h.arrival

abbrev pub holding_of : code.HoldingReceiver → HoldingReceiver
holding_of s = record { receiver = receiver_of s.receiver; has_held = has_held s.held; held = number_held s.held; arrival = arrival_held s.held; clock = s.clock }

abbrev pub opening : Result code.HoldingReceiver Refusal → HoldingOpening
opening (Ok s) = record { number = 0; receiver = holding_of s }
opening (Err e) = holding_refused (number e)

abbrev pub which_of : code_which.Which → Which
which_of code_which_is.Neither = neither
which_of code_which_is.Held = held
which_of code_which_is.New = new

abbrev pub holding_answer : code_answer.HoldingAnswer → HoldingAnswer
holding_answer (Waits d k) = waits d (which_of k)
holding_answer (Late d k) = is_late d (which_of k)
holding_answer (Jump d k) = is_jump d (which_of k)
holding_answer (Break g) = is_break (given_of g)
holding_answer (Gives of k a g) = gives (which_of of) (which_of k) a (given_of g)

-- and 01's number of a refusal
abbrev pub answered : Result code_answer.HoldingAnswer Refusal → HoldingAnswer
answered (Ok a) = holding_answer a
answered (Err e) = refuses (number e)

-- what an accepted call makes
abbrev pub call_made : Advanced code.HoldingReceiver code_answer.HoldingAnswer → HoldingStep
call_made a = record { receiver = holding_of a.receiver; answer = holding_answer a.answer }

-- a call on this receiver, which a refusal leaves as it was
abbrev pub advanced : HoldingReceiver → Result (Advanced code.HoldingReceiver code_answer.HoldingAnswer) Refusal → HoldingStep
advanced s (Ok a) = call_made a
advanced s (Err e) = refusing s (number e)

-- a call with its text
pub record Handed : Type 0 where
  pub step : HoldingStep
  pub text : List ℕ

abbrev pub handed : HoldingReceiver → Result (Stepped code.HoldingReceiver code_answer.HoldingAnswer) Refusal → Handed
handed s (Ok x) = record { step = record { receiver = holding_of x.receiver; answer = holding_answer x.answer }; text = x.text.now }
handed s (Err e) = record { step = refusing s (number e); text = [] }

abbrev pub handed_of : HoldingReceiver → ℕ → List ℕ → definition.Option (List ℕ) → Handed
handed_of s t lent p = record { step = holding_step s t lent p; text = text_handed lent (new_bytes p) (holding_step s t lent p).answer }
