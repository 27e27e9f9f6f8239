-- A call is refused exactly where its number is not 0.
use Rattle.std.proofs.Common.{◌≡◌, false, not, eqb, refl, ap, arith}
use Rattle.std.specs.Prelude.{Result, Ok, Err}
use borrow.Author.Tests.{ne_eqb}
use Rattle.packet.specs.declared.Refusal.{Refusal}
use Rattle.packet.specs.Refusal.{number}
use Rattle.packet.proofs.Names.{number_positive}
use Rattle.receiver.specs.declared.Advanced.{Advanced}
use Rattle.holding.specs.declared.HoldingReceiver.{HoldingReceiver}
use Rattle.holding.specs.declared.HoldingAnswer.{HoldingAnswer}
use Rattle.holding.specs.declared.HoldingAnswer.TheVariants.{Waits, Late, Jump, Break, Gives}
use Rattle.holding.specs.View.{holding_answer, advanced}
use Rattle.holding_spec.specs.State as definition
use Rattle.holding_spec.specs.Answers.{was_refused}
use Rattle.holding_boundary.specs.Holding.{answer_number}

-- an accepted answer's number is 0
pub accepted_number : (a : HoldingAnswer) → (was_refused (holding_answer a) ≡ false) × (answer_number (holding_answer a) ≡ 0)
accepted_number (Waits d k) = (refl, refl)
accepted_number (Late d k) = (refl, refl)
accepted_number (Jump d k) = (refl, refl)
accepted_number (Break g) = (refl, refl)
accepted_number (Gives of k a g) = (refl, refl)

pub number_tells : (s : definition.HoldingReceiver) (x : Result (Advanced HoldingReceiver HoldingAnswer) Refusal)
    → not (eqb (answer_number (advanced s x).answer) 0) ≡ was_refused (advanced s x).answer
number_tells s (Ok a) = let n = accepted_number a.answer in rw (n.1, n.0)
number_tells s (Err e) = ap not (ne_eqb (number e) 0 (λ z. omega (arith, number_positive e)))
