-- What pins where the window is measured from: the newest packet handed out. By the newest accepted the claim is false, as calls
-- show whose packets are all at most 2,999 ahead of that: 6, then 8, which is held, then 3,007, which is a jump from 6; a wait hands
-- out 8, and 3,008, the number kept, is a break. No mark stands for 9 to 3,007.
use Prim.Native.Nat.{ℕ}
use mathlib.Core.Path.{◌≡◌, ap}
use mathlib.Core.List.{List, [], ◌∷◌}
use mathlib.Core.Option.{none, some}
use native.Mathlib.Omega.{arith}
use lib.ListN.{length}
use Rattle.packet_spec.specs.Redundancy.{headers}
use Rattle.packet_spec.specs.Reading.{reading}
use Rattle.delivery.specs.Record.{Entry}
use Rattle.delivery.specs.Claim.{Near, newest_on_arrival, entry, expected_record}
use Rattle.delivery.proofs.Edges.{alone}
use Rattle.delivery.proofs.Ranges.{length_map_range}
use Rattle.holding_spec.specs.State.{fresh_holding}
use Rattle.holding_spec.specs.Step.{holding_step}
use Rattle.holding_spec.specs.Record.{Call, record_of}
use Rattle.holding_spec.proofs.HoldingTests.{one}

abbrev arrives : ℕ → List ℕ → ℕ → Call
arrives t lent n = record { clock = t; lent = lent; packet = some (one n) }

abbrev pub calls : List Call
calls =
    arrives 0 [] 6
    ∷ arrives 0 [] 8
    ∷ arrives 0 (one 8) 3007
    ∷ record { clock = 1000; lent = one 8; packet = none }
    ∷ arrives 1000 [] 3008
    ∷ []

-- those accepted, in order, are inside the window of the newest of them
pub accepted_near : Near (alone 0) (6 ∷ 8 ∷ 3007 ∷ 3008 ∷ [])
accepted_near = (omega arith, omega arith, (omega arith, omega arith, (omega arith, omega arith, tt)))

-- and the record is not the one expected of those handed out
pub accepted_window_fails : record_of holding_step (fresh_holding 98 100) calls ≡ expected_record (alone 0) (6 ∷ 8 ∷ 3008 ∷ []) → ⊥
unfolding holding_step reading headers
accepted_window_fails claim =
    let few : ◌≡◌ {A = ℕ} 4 (length (expected_record (alone 0) (6 ∷ 8 ∷ 3008 ∷ []))) = ap (λ (l : List Entry). length l) claim in
    omega (arith, few, length_map_range (entry (alone 0) (newest_on_arrival (alone 0) (6 ∷ 8 ∷ 3008 ∷ []))) 6 3003)
