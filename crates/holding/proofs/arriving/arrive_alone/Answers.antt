use Rattle.std.proofs.Common.{◌∙◌, refl, sym}
use Rattle.receiver.specs.View.{receiver_of, step_made}
use Rattle.holding.specs.View.{holding_answer}
use Rattle.holding.proofs.Readings.{accept_never}
use Rattle.holding.proofs.Arrivals.{goes_alone}
use Rattle.holding.proofs.arriving.arrive_alone.Goals as goal

pub returns-in_err-step : goal.returns-in_err-step
returns-in_err-step c s content read = absurd (accept_never _ _ content _ read _ c.in_err-step.ensures)

pub returns-else-would_lose : goal.returns-else-would_lose
returns-else-would_lose c s =
    let a = c.args in
    goes_alone (receiver_of a.receiver) a.clock a.new.bytes.now a.new.packet (step_made c.in_ok-step.step) c.in_ok-step.ensures _
    (holding_answer c.tell.result)
    (sym c.would_lose.ensures ∙ c.if-would_lose.false)
    refl
    c.tell.ensures
