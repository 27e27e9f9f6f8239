-- The parts of a call, by whether a packet is held.
use Rattle.std.specs.Prelude.{ℕ, not, cond, List, [], ◌∷◌, ltb}
use Rattle.std.proofs.Math.Option.{none}
use Rattle.base.specs.Checks.{◌gives◌, number_by}
use Rattle.packet_spec.specs.Header.{types_bad}
use Rattle.packet.specs.Places.{ReadResult, refused_answer, answer}
use Rattle.receiver_spec.specs.State.{Receiver, read_by}
use Rattle.holding_spec.specs.State.{HoldingReceiver, is_numbered}
use Rattle.holding_spec.specs.Answers.{HoldingStep}
use Rattle.holding_spec.specs.Rule.{waited}
use Rattle.holding_spec.specs.Step.{arrived_at, refusing, arrives_read}

-- 3, then 5
abbrev pub first_number : HoldingReceiver → ℕ → ℕ
first_number s t = number_by (types_bad s.receiver.t140 s.receiver.red gives 3 ∷ ltb t s.clock gives 5 ∷ [])

-- the packet lent back, or 27
abbrev pub read_back : Receiver → ℕ → List ℕ → ReadResult
read_back r n lent = cond (is_numbered n (read_by r lent)) (answer lent (read_by r lent)) (refused_answer 27)

abbrev pub step_alone : HoldingReceiver → ℕ → List ℕ → HoldingStep
step_alone s t p = arrives_read s t p none (read_by s.receiver p)

-- x, where the packet lent back is the one held
abbrev pub if_back : HoldingReceiver → List ℕ → HoldingStep → HoldingStep
if_back s lent x = cond (not (is_numbered s.held (read_by s.receiver lent))) (refusing s 27) x

abbrev pub step_behind : HoldingReceiver → ℕ → List ℕ → List ℕ → HoldingStep
step_behind s t lent p = if_back s lent (arrives_read s t p (arrived_at s.arrival lent (read_by s.receiver lent)) (read_by s.receiver p))

abbrev pub wait_behind : HoldingReceiver → ℕ → List ℕ → HoldingStep
wait_behind s t lent = if_back s lent (waited s.receiver t (arrived_at s.arrival lent (read_by s.receiver lent)))
