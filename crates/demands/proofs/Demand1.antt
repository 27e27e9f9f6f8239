-- Demand 1.
use Prim.Native.Nat.{ℕ, suc}
use mathlib.Core.Path.{◌≡◌, ◌∙◌, refl, ap, sym}
use mathlib.Core.List.{List}
use mathlib.Core.Bool.{Bool, true, false, cond, not}
use native.Mathlib.Omega.{arith}
use lib.Dec.{eqb}
use borrow.Author.Tests.{le-ltb, eqb-true}
use Rattle.base.specs.Checks.{number_by}
use Rattle.packet_spec.specs.Limits.{level}
use Rattle.packet_spec.specs.Header.{types_bad}
use Rattle.packet_spec.specs.Reading.{Content, Read, holds, refused, reading}
use Rattle.receiver_spec.specs.Opening as receiver
use Rattle.receiver_spec.specs.Opening.{receiver_refused}
use Rattle.receiver_spec.specs.Answers.{Opening, refuses, is_accepted}
use Rattle.receiver_spec.specs.State.{zero_receiver, fresh_receiver, opening_checks, Receiver, source_expected}
use Rattle.receiver_spec.specs.Step.{step_read, step_of}
use Rattle.holding_spec.specs.State.{fresh_holding, zero_holding}
use Rattle.holding_spec.specs.Answers.{HoldingOpening, HoldingStep}
use Rattle.holding_spec.specs.Opening as holding
use Rattle.holding_spec.specs.Opening.{holding_refused}
use Rattle.holding_spec.specs.Step.{holding_step}
use Rattle.sender_spec.specs.State.{Settings, Sender, fresh_sender, zero_sender}
use Rattle.sender_spec.specs.Answers as answers
use Rattle.sender_spec.specs.Answers.{CallResult, ClockResult}
use Rattle.sender_spec.specs.Settings.{settings_checks, settings_number}
use Rattle.sender_spec.specs.Calls as sender
use Rattle.sender_spec.specs.Offering.{offer_checks, sender_with}
use Rattle.sender_spec.specs.Calls.{offer_of, offer_refused, clock_of, clock_refused}
use Rattle.sender_spec.specs.Clocking.{clock_checks}
use Rattle.demands.specs.Ours.{ours}
use Rattle.demands.specs.Demand1.{OnlyClock, Demand1}
use Rattle.base.proofs.InOrder.{checked_of, refused_by_lem}
use Rattle.receiver_spec.proofs.Core.{accepts}
use Rattle.holding_spec.proofs.Refusals.{refused_first, packet_refused, refused_packet, waiting_accepts, refused_stays}
use Rattle.sender_spec.proofs.Calls as calls
use Rattle.sender_spec.proofs.ChecksPassed.{open_passed, clock_passed}
use Rattle.sender_spec.proofs.Shapes as shapes
use Rattle.sender_spec.proofs.Shapes.{Offer, Clock, offer_shape, clock_shape}

module _ (t140 red : ℕ) where
  -- both cases of a receiver's opening
  abbrev by : Bool → Opening
  by b = cond b (receiver_refused 3) (record { number = 0; receiver = fresh_receiver t140 red })

  receiver_number : (receiver.open_receiver t140 red).number ≡ number_by (opening_checks t140 red)
  receiver_number = checked_of (λ (o : Opening). o.number) receiver_refused (opening_checks t140 red) _

  pub receiver_opened : (receiver.open_receiver t140 red).number ≡ 0 → (receiver.open_receiver t140 red).receiver ≡ fresh_receiver t140 red
  receiver_opened = go (types_bad t140 red)
    where
      go : (b : Bool) → (by b).number ≡ 0 → (by b).receiver ≡ fresh_receiver t140 red
      go true e = absurd (omega arith)
      go false e = refl

  receiver_refused_lem : (n : ℕ) → (receiver.open_receiver t140 red).number ≡ suc n → (receiver.open_receiver t140 red).receiver ≡ zero_receiver
  receiver_refused_lem n = go (types_bad t140 red)
    where
      go : (b : Bool) → (by b).number ≡ suc n → (by b).receiver ≡ zero_receiver
      go true e = refl
      go false e = absurd (omega arith)

  -- and of one that holds
  abbrev holding_by : Bool → HoldingOpening
  holding_by b = cond b (holding_refused 3) (record { number = 0; receiver = fresh_holding t140 red })

  holding_number : (holding.open_holding t140 red).number ≡ number_by (opening_checks t140 red)
  holding_number = checked_of (λ (o : HoldingOpening). o.number) holding_refused (opening_checks t140 red) _

  pub holding_opened : (holding.open_holding t140 red).number ≡ 0 → (holding.open_holding t140 red).receiver ≡ fresh_holding t140 red
  holding_opened = go (types_bad t140 red)
    where
      go : (b : Bool) → (holding_by b).number ≡ 0 → (holding_by b).receiver ≡ fresh_holding t140 red
      go true e = absurd (omega arith)
      go false e = refl

  holding_refused_lem : (n : ℕ) → (holding.open_holding t140 red).number ≡ suc n → (holding.open_holding t140 red).receiver ≡ zero_holding
  holding_refused_lem n = go (types_bad t140 red)
    where
      go : (b : Bool) → (holding_by b).number ≡ suc n → (holding_by b).receiver ≡ zero_holding
      go true e = refl
      go false e = absurd (omega arith)

sender_number : (x : Settings) → (sender.open_sender x).number ≡ number_by (settings_checks x)
unfolding sender.open_sender settings_number
sender_number x = go (settings_number x) (eqb (settings_number x) 0) refl
  where
    go : (n : ℕ) (b : Bool) → eqb n 0 ≡ b → (cond {A = CallResult} (not b) (sender.sender_refused n) (record { number = 0; sender = fresh_sender x })).number ≡ n
    go n true q = sym (eqb-true n 0 q)
    go n false q = refl

sender_refused_lem : (x : Settings) (n : ℕ) → (sender.open_sender x).number ≡ suc n → (sender.open_sender x).sender ≡ zero_sender
unfolding sender.open_sender
sender_refused_lem x n = go (eqb (settings_number x) 0)
  where
    go : (b : Bool)
        → (cond {A = CallResult} (not b) (sender.sender_refused (settings_number x)) (record { number = 0; sender = fresh_sender x })).number ≡ suc n
        → (cond {A = CallResult} (not b) (sender.sender_refused (settings_number x)) (record { number = 0; sender = fresh_sender x })).sender ≡ zero_sender
    go true e = absurd (omega arith)
    go false e = refl

-- an answer to an accepted packet is no refusal
accepted_not : (r : Receiver) (p : List ℕ) (c : Content) (n : ℕ) → (step_read r p (holds c)).answer ≡ refuses n → ⊥
accepted_not r p c n e = let z : true ≡ false = sym (accepts r p c) ∙ ap is_accepted e in absurd (let w : ◌≡◌ {A = ℕ} 0 1 = cc in omega arith)

step_is : (r : Receiver) (p : List ℕ) (n : ℕ) (x : Read) → (step_read r p x).answer ≡ refuses n → x ≡ refused n
step_is r p n (refused k) e = let q : k ≡ n = cc in ap refused q
step_is r p n (holds c) e = absurd (accepted_not r p c n e)

step_refused : (r : Receiver) (p : List ℕ) (n : ℕ) → (step_of r p).answer ≡ refuses n → (step_of r p).receiver ≡ r
unfolding step_of
step_refused r p n e = ap (λ (x : Read). (step_read r p x).receiver) (step_is r p n (reading level (source_expected r) r.t140 r.red p) e)

offer_number : (s : Sender) (t : ℕ) (x : List ℕ) → (offer_of s t x).number ≡ number_by (offer_checks s t x)
unfolding offer_of
offer_number s t x = checked_of (λ (r : CallResult). r.number) (offer_refused s) (offer_checks s t x) (record { number = 0; sender = sender_with s t x })

offer_refused_lem : (s : Sender) (t : ℕ) (x : List ℕ) (n : ℕ) → (offer_of s t x).number ≡ suc n → (offer_of s t x).sender ≡ s
offer_refused_lem s t x n = go (offer_of s t x) (offer_shape s t x)
  where
    go : (r : CallResult) → Offer s t x r → r.number ≡ suc n → r.sender ≡ s
    go r (shapes.refused k h) e = refl
    go r (shapes.joined a b c d) e = absurd (omega arith)

clock_number : (s : Sender) (t : ℕ) (p : List ℕ) (n : ℕ) → number_by (clock_checks s t) ≡ suc n → (clock_of s t p).answer ≡ answers.refused (suc n)
unfolding clock_of
clock_number s t p n e = ap (λ (r : ClockResult). r.answer) (refused_by_lem (clock_refused s p) (clock_checks s t) _ (suc n) (omega arith) e)

clock_refused_lem : (s : Sender) (t : ℕ) (p : List ℕ) (n : ℕ) → (clock_of s t p).answer ≡ answers.refused n → ((clock_of s t p).sender ≡ s) × ((clock_of s t p).lent ≡ p)
clock_refused_lem s t p n = go (clock_of s t p) (clock_shape s t p)
  where
    go : (r : ClockResult) → Clock s t p r → r.answer ≡ answers.refused n → (r.sender ≡ s) × (r.lent ≡ p)
    go r (shapes.refused k) e = (refl, refl)
    go r (shapes.quiet a b) e = absurd (let z : ◌≡◌ {A = ℕ} 0 1 = cc in omega arith)
    go r (shapes.sent a b c d) e = absurd (let z : ◌≡◌ {A = ℕ} 0 1 = cc in omega arith)

clock_quiet_lem : (s : Sender) (t : ℕ) (p : List ℕ) → (clock_of s t p).answer ≡ answers.quiet → OnlyClock s t (clock_of s t p).sender × ((clock_of s t p).lent ≡ p)
clock_quiet_lem s t p = go (clock_of s t p) (clock_shape s t p)
  where
    go : (r : ClockResult) → Clock s t p r → r.answer ≡ answers.quiet → OnlyClock s t r.sender × (r.lent ≡ p)
    go r (shapes.refused k) e = absurd (let z : ◌≡◌ {A = ℕ} 0 1 = cc in omega arith)
    go r (shapes.quiet a b) e = (record { clock = refl; settings = refl; waiting = refl; characters = refl; since = refl; kept = refl; times = refl; progress = refl }, refl)
    go r (shapes.sent a b c d) e = absurd (let z : ◌≡◌ {A = ℕ} 0 1 = cc in omega arith)

pub demand_1 : Demand1 ours
unfolding step_of reading holding_step offer_of clock_of settings_number
demand_1 = record {
  receiver_number = receiver_number;
  receiver_opened = receiver_opened;
  receiver_refused = receiver_refused_lem;
  holding_number = holding_number;
  holding_opened = holding_opened;
  holding_refused = holding_refused_lem;
  sender_number = sender_number;
  sender_opened = λ x o. (open_passed x o).1;
  sender_refused = sender_refused_lem;
  read_number = λ e t140 red p n. (λ h. h, λ h. h);
  step_number = λ r p n. (step_is r p n (reading level (source_expected r) r.t140 r.red p), λ e. ap (λ (x : Read). (step_read r p x).answer) e);
  step_refused = step_refused;
  hold_number = λ s t lent p n e. ap (λ (x : HoldingStep). x.answer) (refused_first s t lent p n e);
  hold_packet = λ s t lent p n e. (packet_refused s t lent p n e, refused_packet s t lent p n e);
  hold_wait = waiting_accepts;
  hold_refused = refused_stays;
  offer_number = offer_number;
  offer_refused = offer_refused_lem;
  clock_number = clock_number;
  clock_not_due = λ s t p e d.
      let o = clock_passed s t e in
      ap (λ (r : ClockResult). r.answer) (calls.clock_quiet_lem s t p (settings_number s.settings) refl o.0 o.1 d);
  clock_space = λ s t p e d h.
      let o = clock_passed s t e in
      ap (λ (r : ClockResult). r.answer) (calls.clock_8 s t p (settings_number s.settings) refl o.0 o.1 d h);
  clock_refused = clock_refused_lem;
  clock_quiet = clock_quiet_lem;
  zero_receiver_refuses = λ p. refl;
  zero_holding_refuses = λ t lent p. refl;
  zero_offer = λ t x. rw (le-ltb level 0 (omega arith));
  zero_clock = λ t p. rw (le-ltb level 0 (omega arith));
}
