use Rattle.std.proofs.Common.{ap, sym, ◌∙◌, rules}
use Rattle.std.proofs.Math.Option.{some}
use Rattle.holding_spec.specs.Answers.{HoldingStep}
use Rattle.holding_spec.specs.Answers.{was_refused}
use Rattle.holding_boundary.specs.Holding.{held_holding, lent_holding, answer_number, answer_record}
use Rattle.holding_boundary.proofs.NumberTells.{accepted_number}
use Rattle.holding_boundary.proofs.KnownHolder.{known_refused, known_accepted}
use Rattle.holding_boundary.proofs.step.Goals as goal

pub returns-in_err-made : goal.returns-in_err-made
returns-in_err-made c =
    let a = c.args in
    let told = known_refused a.clock a.held.now (some a.packet.now) _ (held_holding a.lent) c.from.ensures _ c.in_err-made.ensures in
    search (rules, told)

pub returns : goal.returns
returns c =
    let a = c.args in
    let told = known_accepted a.clock a.held.now (some a.packet.now) _ (held_holding a.lent) c.from.ensures _ c.in_ok-made.ensures in
    let accepted = accepted_number c.in_ok-made.made.answer in
    record {
      refused = ap (λ (x : HoldingStep). was_refused x.answer) (sym told) ∙ accepted.0;
      number = ap (λ (x : HoldingStep). answer_number x.answer) (sym told) ∙ accepted.1;
      receiver = c.records.ensures.0 ∙ ap (λ (x : HoldingStep). lent_holding x.receiver) told;
      step = c.records.ensures.1 ∙ ap (λ (x : HoldingStep). answer_record x.answer) told;
    }
