-- Demand 3, for any sender: the record of whatever arrives is the expected one.
use Prim.Native.Nat.{ℕ}
use mathlib.Core.Path.{◌≡◌, ◌∙◌, refl, ap, sym, subst}
use mathlib.Core.List.{List, map}
use Rattle.packet_spec.specs.Reading.{Content}
use Rattle.delivery.specs.Internal.Core as core
use Rattle.delivery.specs.Internal.Core.{sent}
use Rattle.delivery.specs.Claim.{Near, expected_record}
use Rattle.delivery.specs.Run.{Rules, sender_of}
use Rattle.receiver_spec.specs.Opening.{open_receiver}
use Rattle.receiver_spec.specs.State.{fresh_receiver, Receiver}
use Rattle.receiver_spec.specs.Step.{step_of}
use Rattle.receiver_spec.specs.Record.{record_of, accepted_of}
use Rattle.holding_spec.specs.State.{HoldingReceiver}
use Rattle.holding_spec.specs.Opening.{open_holding}
use Rattle.holding_spec.specs.Step.{holding_step}
use Rattle.holding_spec.specs.Record as holding
use Rattle.holding_spec.specs.Claim.{nothing_yet, HandsOut}
use Rattle.demands.specs.Rules.{IsPacket, KeepsRules}
use Rattle.delivery.proofs.OldestBlock.{sender_of_in_order}
use Rattle.delivery.proofs.Delivered.{delivered}
use Rattle.holding_spec.proofs.Recorded as held
use Rattle.receiver_spec.proofs.Core.{packet_of, same_record, same_packets}
use Rattle.demands.proofs.Demand1.{receiver_opened, holding_opened}

-- a packet by the rules is the one that delivery's sender sends
pub is_sent_lem : (rules : Rules) (k : ℕ) (c : Content) → IsPacket rules k c → packet_of c ≡ sent (sender_of rules) k
is_sent_lem rules k c w = λ i. record { sequence = w.sequence i; older = w.older i; primary = w.primary i }

module _ (t140 red : ℕ) (rules : Rules) (packet : ℕ → List ℕ) (keeps : KeepsRules t140 red rules packet) where
  pub recorded : (open_receiver t140 red).number ≡ 0
      → (given : List (List ℕ)) (ks : List ℕ) → accepted_of step_of (open_receiver t140 red).receiver given ≡ map packet ks → Near (sender_of rules) ks
      → record_of step_of (open_receiver t140 red).receiver given ≡ expected_record (sender_of rules) ks
  recorded o given ks e near =
      let r = fresh_receiver t140 red in
      let f : (open_receiver t140 red).receiver ≡ r = receiver_opened t140 red o in
      ap (λ (x : Receiver). record_of step_of x given) f
      ∙ same_record given r
      ∙ ap (core.record_from core.fresh) (same_packets t140 red (sender_of rules) packet (λ k c q. is_sent_lem rules k c (keeps.reads k c q)) given r refl refl ks (sym (ap (λ (x : Receiver). accepted_of step_of x given) f) ∙ e))
      ∙ delivered (sender_of rules) (sender_of_in_order rules keeps.rises) ks near

  -- with holding
  pub holding_recorded : (open_holding t140 red).number ≡ 0
      → (calls : List holding.Call) (ks : List ℕ) → HandsOut (sender_of rules) packet holding_step nothing_yet (open_holding t140 red).receiver calls ks
      → holding.record_of holding_step (open_holding t140 red).receiver calls ≡ expected_record (sender_of rules) ks
  holding_recorded o calls ks hands =
      subst
      (λ (s : HoldingReceiver). HandsOut (sender_of rules) packet holding_step nothing_yet s calls ks → holding.record_of holding_step s calls ≡ expected_record (sender_of rules) ks)
      (sym (holding_opened t140 red o))
      (held.recorded (sender_of rules) (sender_of_in_order rules keeps.rises) t140 red packet (λ k c q. is_sent_lem rules k c (keeps.reads k c q)) calls ks) hands
