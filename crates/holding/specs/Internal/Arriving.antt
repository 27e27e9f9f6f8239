-- What the code promises of a packet that was read of the bytes lent with it: the rule.
use Rattle.std.specs.Prelude.{ℕ, ◌≡◌, List}
use Rattle.std.proofs.Math.Option.{none, some}
use Rattle.packet.specs.declared.Packet.{Packet}
use Rattle.packet_spec.specs.Reading.{Content, holds}
use Rattle.packet.specs.Places.{placed}
use Rattle.receiver_spec.specs.State.{Receiver, read_by}
use Rattle.holding_spec.specs.Answers.{HoldingStep}
use Rattle.holding_spec.specs.Rule.{Arrived, waited, arrives}

-- packet k is what receiver r reads of the bytes p
pub record ReadAs (r : Receiver) (p : List ℕ) (c : Content) (k : Packet) : Type 0 where
  pub read : read_by r p ≡ holds c
  pub places : k ≡ placed p c

abbrev pub arrived : ℕ → List ℕ → Content → Arrived
arrived t p c = record { arrival = t; bytes = p; content = c }

abbrev pub ArrivesAlone : Receiver → ℕ → List ℕ → Packet → HoldingStep → Type 0
ArrivesAlone r t p k x = (c : Content) → ReadAs r p c k → x ≡ arrives r t (arrived t p c) none

abbrev pub ArrivesBehind : Receiver → ℕ → ℕ → List ℕ → Packet → List ℕ → Packet → HoldingStep → Type 0
ArrivesBehind r t a lent l p k x = (b c : Content) → ReadAs r lent b l → ReadAs r p c k → x ≡ arrives r t (arrived t p c) (some (arrived a lent b))

abbrev pub WaitsBehind : Receiver → ℕ → ℕ → List ℕ → Packet → HoldingStep → Type 0
WaitsBehind r t a lent l x = (b : Content) → ReadAs r lent b l → x ≡ waited r t (some (arrived a lent b))
