-- Demand 3 with holding: what is provided of a list of calls, and which of the sender's packets they hand out.
use Rattle.std.specs.Prelude.{ℕ, ◌+◌, ◌≤◌, max, true, false, List, [], ◌∷◌, ◌++◌, ◌≡◌}
use Rattle.std.proofs.Math.Option.{Option, none, some}
use Rattle.delivery.specs.Numbers.{most_ahead, most_behind}
use Rattle.delivery.specs.Sending.{BlockSender}
use Rattle.holding_spec.specs.State.{HoldingReceiver}
use Rattle.holding_spec.specs.Answers.{chosen, HoldingAnswer, HoldingStep, was_refused, given_of, keep_of}
use Rattle.holding_spec.specs.Record.{Call, step_for}

-- in the sender's numbers: the newest block handed out, and the packet that the answers said to keep
pub record Ledger : Type 0 where
  pub newest : Option ℕ
  pub kept : Option ℕ

abbrev pub nothing_yet : Ledger
nothing_yet = record { newest = none; kept = none }

abbrev pub listed : Option ℕ → List ℕ
listed none = []
listed (some k) = k ∷ []

-- the packet that an answer hands out, where packet k arrived, if one did
abbrev pub handed : Ledger → Option ℕ → HoldingAnswer → Option ℕ
handed l k a = chosen (given_of a) l.kept k

-- a sender, and the bytes of its packet k
module _ (S : BlockSender) (packet : ℕ → List ℕ) where
  abbrev pub newer : Option ℕ → Option ℕ → Option ℕ
  newer n none = n
  newer none (some k) = some (S.newest k)
  newer (some n) (some k) = some (max n (S.newest k))

  abbrev pub behind : Ledger → Option ℕ → HoldingAnswer → Ledger
  behind l k a = record { newest = newer l.newest (handed l k a); kept = chosen (keep_of a) l.kept k }

  abbrev pub arriving : Option ℕ → Option (List ℕ)
  arriving none = none
  arriving (some k) = some (packet k)

  -- "the held packet lent back unaltered"
  abbrev pub Unaltered : Option ℕ → List ℕ → Type 0
  Unaltered none lent = Unit {0}
  Unaltered (some k) lent = lent ≡ packet k

  -- "distances are measured on arrival from the newest handed out"; the first packet needs none
  abbrev pub InWindow : Option ℕ → Option ℕ → Type 0
  InWindow n none = Unit {0}
  InWindow none (some k) = Unit {0}
  InWindow (some n) (some k) = (S.newest k ≤ n + most_ahead) × (n ≤ S.newest k + most_behind)

  -- calls, refused ones among them, that hand out the packets ks. Each accepted call is lent the packet to keep, and is given packet k
  -- of the sender or none
  module _ (step : HoldingReceiver → ℕ → List ℕ → Option (List ℕ) → HoldingStep) where
    pub data HandsOut : Ledger → HoldingReceiver → List Call → List ℕ → Type 0 where
      end : {l : Ledger} {s : HoldingReceiver} → HandsOut l s [] []
      refused : {l : Ledger} {s : HoldingReceiver} (c : Call) {cs : List Call} {ks : List ℕ} → was_refused (step_for step s c).answer ≡ true
          → HandsOut l (step_for step s c).receiver cs ks → HandsOut l s (c ∷ cs) ks
      accepted : {l : Ledger} {s : HoldingReceiver} (t : ℕ) (lent : List ℕ) (k : Option ℕ) {cs : List Call} {ks : List ℕ}
          → was_refused (step s t lent (arriving k)).answer ≡ false → Unaltered l.kept lent → InWindow l.newest k
          → HandsOut (behind l k (step s t lent (arriving k)).answer) (step s t lent (arriving k)).receiver cs ks
          → HandsOut l s (record { clock = t; lent = lent; packet = arriving k } ∷ cs) (listed (handed l k (step s t lent (arriving k)).answer) ++ ks)
