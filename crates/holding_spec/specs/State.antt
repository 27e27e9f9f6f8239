-- A receiver that may hold one packet (02, request 5), and the checks of its calls.
use Rattle.std.specs.Prelude.{ℕ, Bool, true, false, not, ◌&&◌, List, [], ◌∷◌, ltb, eqb}
use Rattle.base.specs.Checks.{Check, ◌gives◌}
use Rattle.packet_spec.specs.Header.{types_bad}
use Rattle.packet_spec.specs.Reading.{Read, holds, refused}
use Rattle.receiver_spec.specs.State.{Receiver, fresh_receiver, read_by}

-- a receiver, of the packets handed out; whether a packet is held, its number and the clock of its arrival; and the latest clock.
-- The packet itself stays with the caller
pub record HoldingReceiver : Type 0 where
  pub receiver : Receiver
  pub has_held : Bool
  pub held : ℕ
  pub arrival : ℕ
  pub clock : ℕ

-- at clock t with no packet held, and with packet n held since clock a
abbrev pub holds_none : Receiver → ℕ → HoldingReceiver
holds_none r t = record { receiver = r; has_held = false; held = 0; arrival = 0; clock = t }

abbrev pub holds_one : Receiver → ℕ → ℕ → ℕ → HoldingReceiver
holds_one r n a t = record { receiver = r; has_held = true; held = n; arrival = a; clock = t }

abbrev pub fresh_holding : ℕ → ℕ → HoldingReceiver
fresh_holding t140 red = holds_none (fresh_receiver t140 red) 0

abbrev pub zero_holding : HoldingReceiver
zero_holding = fresh_holding 0 0

-- the packet is accepted, and has this number
abbrev pub is_numbered : ℕ → Read → Bool
is_numbered n (refused k) = false
is_numbered n (holds c) = eqb c.sequence n

-- "A clock that goes back is refusal 5, before all else but 3; then, with one held, 27 if the lent held packet is refused or has
-- another number"
abbrev pub holding_checks : HoldingReceiver → ℕ → List ℕ → List Check
holding_checks s t lent =
    types_bad s.receiver.t140 s.receiver.red gives 3
    ∷ ltb t s.clock gives 5
    ∷ (s.has_held && not (is_numbered s.held (read_by s.receiver lent))) gives 27
    ∷ []
