use mathlib.Core.Path.{sym}
use native.Mathlib.Omega.{arith}
use Rattle.rate.proofs.Fits.{fits_empty, fits_slot}
use Rattle.rate.proofs.may_leave.Goals as goal

pub returns-then-used-slots : goal.returns-then-used-slots
returns-then-used-slots c =
    let a = c.args in
    sym (fits_empty a.slots a.log.now a.at a.used a.clock a.characters (omega arith) (omega arith) (omega arith))

pub returns : goal.returns
returns c =
    let a = c.args in
    rw (c.saturating_sub.ensures, c.around-slot.ensures)
    (sym (fits_slot a.slots a.log.now a.at a.used a.clock a.characters (omega arith) (omega arith) (omega arith) (omega arith)))
