-- Opening a receiver that holds: a refused opening gives one of all zeros.
use Rattle.std.specs.Prelude.{ℕ}
use Rattle.base.specs.Checks.{checked}
use Rattle.receiver_spec.specs.State.{opening_checks}
use Rattle.holding_spec.specs.State.{fresh_holding, zero_holding}
use Rattle.holding_spec.specs.Answers.{HoldingOpening}

abbrev pub holding_refused : ℕ → HoldingOpening
holding_refused n = record { number = n; receiver = zero_holding }

abbrev pub open_holding : ℕ → ℕ → HoldingOpening
open_holding t140 red = checked holding_refused (opening_checks t140 red) (record { number = 0; receiver = fresh_holding t140 red })
