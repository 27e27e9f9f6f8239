use Rattle.std.proofs.Common.{◌≡◌, pos, ◌∙◌, ap, refl, subst, sym, rules}
use Rattle.std.proofs.Math.Option.{none}
use Rattle.packet.proofs.Names.{number_positive}
use Rattle.receiver.specs.View.{receiver_of}
use Rattle.holding_spec.specs.State.{HoldingReceiver, holds_none, holds_one}
use Rattle.holding_spec.specs.Answers.{neither, waits}
use Rattle.holding_spec.specs.Step.{holding_step}
use Rattle.holding.specs.View.{holding_of, advanced}
use Rattle.holding.proofs.Calls.{one_held, none_held, first_refused, alone_wait, behind_wait}
use Rattle.holding.proofs.HoldingReceiver.advance_clock.Goals as goal

pub returns-in_err-judge : goal.returns-in_err-judge
returns-in_err-judge c =
    let a = c.args in
    let told = first_refused (holding_of a.self) a.clock a.held.now none _ (number_positive _) c.in_err-judge.ensures in
    search (rules, told)

pub returns-in-Some : goal.returns-in-Some
returns-in-Some c =
    let a = c.args in
    let s = holds_one (receiver_of a.self.receiver) c.in-Some.of.number c.in-Some.of.arrival a.self.clock in
    subst (λ (x : HoldingReceiver). advanced x c.wait_behind.result ≡ holding_step x a.clock a.held.now none) (sym (one_held a.self _ c.in-Some.is))
    (c.wait_behind.ensures a.self.clock ∙ sym (behind_wait s a.clock a.held.now (sym c.in_ok-judge.ensures) refl))

pub returns-in-None : goal.returns-in-None
returns-in-None c =
    let a = c.args in
    let s = holds_none (receiver_of a.self.receiver) a.self.clock in
    ap (λ (x : HoldingReceiver). record { receiver = x; answer = waits (pos 0) neither }) (none_held (record { receiver = a.self.receiver; held = a.self.held; clock = a.clock }) c.in-None.is)
    ∙ sym (alone_wait s a.clock a.held.now (sym c.in_ok-judge.ensures) refl)
    ∙ ap (λ (x : HoldingReceiver). holding_step x a.clock a.held.now none) (sym (none_held a.self c.in-None.is))
