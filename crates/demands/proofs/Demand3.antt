-- Demand 3, whole.
use Prim.Native.Nat.{ℕ}
use mathlib.Core.Path.{◌≡◌, sym, subst}
use mathlib.Core.List.{List, map}
use mathlib.Core.Bool.{false}
use Rattle.packet_spec.specs.Header.{types_bad}
use Rattle.delivery.specs.Claim.{Near, expected_record}
use Rattle.delivery.specs.Run.{sender_of}
use Rattle.receiver_spec.specs.Opening.{open_receiver}
use Rattle.receiver_spec.specs.State.{fresh_receiver, Receiver}
use Rattle.receiver_spec.specs.Step.{step_of}
use Rattle.receiver_spec.specs.Record.{record_of, accepted_of}
use Rattle.holding_spec.specs.Opening.{open_holding}
use Rattle.holding_spec.specs.Step.{holding_step}
use Rattle.holding_spec.specs.Record as held
use Rattle.holding_spec.specs.Claim.{nothing_yet, HandsOut}
use Rattle.sender_spec.specs.State.{Settings, Sender, fresh_sender}
use Rattle.sender_spec.specs.Calls as sender
use Rattle.demands.specs.Ours.{ours}
use Rattle.demands.specs.Rules.{KeepsRules}
use Rattle.demands.specs.Sending.{Call, primary_sent, written, finally, sent_by, left_by}
use Rattle.demands.specs.Demand3.{rules_of, packet_at, SpacedAfter, Demand3}
use Rattle.receiver_spec.proofs.OneEach.{OneEach, all_accepted, no_mark}
use Rattle.receiver_spec.proofs.TextGiven.{text_is_blocks}
use Rattle.holding_spec.proofs.TextHanded as handed
use Rattle.sender_spec.proofs.ChecksPassed.{open_passed}
use Rattle.sender_spec.proofs.SettingsPass.{settings_good}
use Rattle.demands.proofs.Demand1.{receiver_opened}
use Rattle.demands.proofs.Recorded.{recorded, holding_recorded}
use Rattle.demands.proofs.OursKeeps.{keeps, spaced}
use Rattle.demands.proofs.Arrives.{all_arrive}

module _ (x : Settings) (calls : List Call) (o : (sender.open_sender x).number ≡ 0) where
  -- what holds from a fresh sender on holds from the opening on
  from_fresh : (P : Sender → Type 0) → P (fresh_sender x) → P (sender.open_sender x).sender
  from_fresh P = subst P (sym (open_passed x o).1)

  -- a receiver with the sender's payload types opens
  opens : (open_receiver x.t140 x.red).number ≡ 0
  opens = let t : types_bad x.t140 x.red ≡ false = (settings_good x (open_passed x o).0).typed in rw t

  pub ours_keeps : KeepsRules x.t140 x.red (rules_of x (sent_by ours x calls) (left_by ours x calls).clock) (packet_at (sent_by ours x calls))
  ours_keeps =
      from_fresh (λ (s : Sender). KeepsRules x.t140 x.red (rules_of x (written ours s calls) (finally ours s calls).clock) (packet_at (written ours s calls)))
      (keeps x calls (open_passed x o).0)

  -- and so the record of whatever copies of its packets a receiver is given is the expected one
  pub ours_recorded : (given : List (List ℕ)) (ks : List ℕ)
      → accepted_of step_of (open_receiver x.t140 x.red).receiver given ≡ map (packet_at (sent_by ours x calls)) ks
      → Near (sender_of (rules_of x (sent_by ours x calls) (left_by ours x calls).clock)) ks
      → record_of step_of (open_receiver x.t140 x.red).receiver given ≡ expected_record (sender_of (rules_of x (sent_by ours x calls) (left_by ours x calls).clock)) ks
  ours_recorded = recorded x.t140 x.red _ _ ours_keeps opens

  -- with holding likewise
  pub ours_holding : (given : List held.Call) (ks : List ℕ)
      → HandsOut (sender_of (rules_of x (sent_by ours x calls) (left_by ours x calls).clock)) (packet_at (sent_by ours x calls)) holding_step nothing_yet (open_holding x.t140 x.red).receiver given ks
      → held.record_of holding_step (open_holding x.t140 x.red).receiver given ≡ expected_record (sender_of (rules_of x (sent_by ours x calls) (left_by ours x calls).clock)) ks
  ours_holding =
      let t : types_bad x.t140 x.red ≡ false = (settings_good x (open_passed x o).0).typed in
      holding_recorded x.t140 x.red _ _ ours_keeps (rw t)

  -- given once each and in order, its packets add their primaries, one each
  pub ours_arrive : OneEach (open_receiver x.t140 x.red).receiver (map (λ w. w.packet) (sent_by ours x calls)) (map primary_sent (sent_by ours x calls))
  ours_arrive =
      subst (λ (r : Receiver). OneEach r (map (λ w. w.packet) (sent_by ours x calls)) (map primary_sent (sent_by ours x calls))) (sym (receiver_opened x.t140 x.red opens))
      (from_fresh (λ (s : Sender). OneEach (fresh_receiver x.t140 x.red) (map (λ w. w.packet) (written ours s calls)) (map primary_sent (written ours s calls)))
      (all_arrive x calls (open_passed x o).0))

pub demand_3 : Demand3 ours
demand_3 = record {
  recorded = λ t140 red o rules packet keeps. recorded t140 red rules packet keeps o;
  text = text_is_blocks;
  holding = λ t140 red o rules packet keeps. holding_recorded t140 red rules packet keeps o;
  holding_text = handed.text_is_blocks;
  keeps = ours_keeps;
  spaced = λ x calls o. from_fresh x calls o (λ (s : Sender). SpacedAfter false 0 x.buffering (written ours s calls)) (spaced calls (fresh_sender x));
  arrives = λ x calls o. record { accepted = all_accepted (ours_arrive x calls o); record_is = no_mark (ours_arrive x calls o) };
}
