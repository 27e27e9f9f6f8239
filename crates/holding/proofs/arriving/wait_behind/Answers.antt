use Rattle.std.proofs.Common.{◌∙◌, refl, sym}
use Rattle.receiver.specs.View.{receiver_of, step_made}
use Rattle.holding.specs.View.{holding_answer}
use Rattle.holding.proofs.Readings.{give_never}
use Rattle.holding.proofs.Arrivals.{goes_behind}
use Rattle.holding.proofs.arriving.wait_behind.Goals as goal

pub returns-in_err-given : goal.returns-in_err-given
returns-in_err-given c s lent read = absurd (give_never _ _ lent _ read _ c.in_err-given.ensures)

pub returns-else-is_early : goal.returns-else-is_early
returns-else-is_early c s =
    let a = c.args in
    goes_behind (receiver_of a.receiver) a.clock a.arrival a.lent.bytes.now a.lent.packet (step_made c.in_ok-given.given) c.in_ok-given.ensures _
    (holding_answer c.tell.result) (sym c.is_early.ensures ∙ c.if-is_early.false) refl c.tell.ensures
