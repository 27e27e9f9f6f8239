-- Opening a receiver: a refused opening gives a receiver of all zeros.
use Rattle.std.specs.Prelude.{ℕ}
use Rattle.base.specs.Checks.{checked}
use Rattle.receiver_spec.specs.State.{fresh_receiver, zero_receiver, opening_checks}
use Rattle.receiver_spec.specs.Answers.{Opening}

abbrev pub receiver_refused : ℕ → Opening
receiver_refused n = record { number = n; receiver = zero_receiver }

abbrev pub open_receiver : ℕ → ℕ → Opening
open_receiver t140 red = checked receiver_refused (opening_checks t140 red) (record { number = 0; receiver = fresh_receiver t140 red })
