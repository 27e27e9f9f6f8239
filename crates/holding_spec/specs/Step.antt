-- A call of a receiver that holds: a clock, what is lent as the packet held, and the packet that arrived, if one did.
use Rattle.std.specs.Prelude.{ℕ, cond, List, []}
use Rattle.std.proofs.Math.Option.{Option, none, some}
use Rattle.base.specs.Arrays.{part}
use Rattle.base.specs.Checks.{checked}
use Rattle.packet_spec.specs.Reading.{Read, holds, refused}
use Rattle.receiver_spec.specs.State.{read_by}
use Rattle.holding_spec.specs.State.{HoldingReceiver, holding_checks}
use Rattle.holding_spec.specs.Answers.{bytes_of, HoldingAnswer, refuses, waits, is_late, is_jump, is_break, gives, HoldingStep}
use Rattle.holding_spec.specs.Rule.{Arrived, waited, arrives}

abbrev pub arrived_at : ℕ → List ℕ → Read → Option Arrived
arrived_at t p (refused n) = none
arrived_at t p (holds c) = some (record { arrival = t; bytes = p; content = c })

-- the packet held, if one is; with none held what is lent is not looked at
abbrev pub lent_back : HoldingReceiver → List ℕ → Option Arrived
lent_back s lent = cond s.has_held (arrived_at s.arrival lent (read_by s.receiver lent)) none

-- a refused call changes nothing, and keeps no clock
abbrev pub refusing : HoldingReceiver → ℕ → HoldingStep
refusing s n = record { receiver = s; answer = refuses n }

abbrev pub arrives_read : HoldingReceiver → ℕ → List ℕ → Option Arrived → Read → HoldingStep
arrives_read s t p h (refused n) = refusing s n
arrives_read s t p h (holds c) = arrives s.receiver t (record { arrival = t; bytes = p; content = c }) h

abbrev pub called : HoldingReceiver → ℕ → List ℕ → Option (List ℕ) → HoldingStep
called s t lent none = waited s.receiver t (lent_back s lent)
called s t lent (some p) = arrives_read s t p (lent_back s lent) (read_by s.receiver p)

unfoldable pub holding_step : HoldingReceiver → ℕ → List ℕ → Option (List ℕ) → HoldingStep
holding_step s t lent p = checked (refusing s) (holding_checks s t lent) (called s t lent p)

-- "it is a part of either the held packet or the new one"
abbrev pub text_handed : List ℕ → List ℕ → HoldingAnswer → List ℕ
text_handed lent p (refuses n) = []
text_handed lent p (waits z keep) = []
text_handed lent p (is_late z keep) = []
text_handed lent p (is_jump z keep) = []
text_handed lent p (is_break g) = part g.from g.to p
text_handed lent p (gives of keep again g) = part g.from g.to (bytes_of of lent p)
