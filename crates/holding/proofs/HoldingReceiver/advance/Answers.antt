use Rattle.std.proofs.Common.{◌≡◌, ◌∙◌, subst, refl, sym, rules}
use Rattle.std.proofs.Math.Option.{some}
use Rattle.packet.proofs.Names.{number_positive}
use Rattle.receiver.specs.View.{receiver_of}
use Rattle.holding_spec.specs.State.{HoldingReceiver, holds_none, holds_one}
use Rattle.holding_spec.specs.Step.{holding_step}
use Rattle.holding.specs.View.{holding_of, advanced}
use Rattle.holding.proofs.Calls.{one_held, none_held, first_refused, alone_step, behind_step}
use Rattle.holding.proofs.HoldingReceiver.advance.Goals as goal

pub returns-in_err-judge : goal.returns-in_err-judge
returns-in_err-judge c =
    let a = c.args in
    let told = first_refused (holding_of a.self) a.clock a.held.now (some a.packet.now) _ (number_positive _) c.in_err-judge.ensures in
    search (rules, told)

pub returns-in-Some : goal.returns-in-Some
returns-in-Some c =
    let a = c.args in
    let s = holds_one (receiver_of a.self.receiver) c.in-Some.of.number c.in-Some.of.arrival a.self.clock in
    subst (λ (x : HoldingReceiver). advanced x c.step_behind.result ≡ holding_step x a.clock a.held.now (some a.packet.now)) (sym (one_held a.self _ c.in-Some.is))
    (c.step_behind.ensures a.self.clock ∙ sym (behind_step s a.clock a.held.now (sym c.in_ok-judge.ensures) a.packet.now refl))

pub returns-in-None : goal.returns-in-None
returns-in-None c =
    let a = c.args in
    let s = holds_none (receiver_of a.self.receiver) a.self.clock in
    subst (λ (x : HoldingReceiver). advanced x c.step_alone.result ≡ holding_step x a.clock a.held.now (some a.packet.now)) (sym (none_held a.self c.in-None.is))
    (c.step_alone.ensures a.self.clock ∙ sym (alone_step s a.clock a.held.now (sym c.in_ok-judge.ensures) a.packet.now refl))
