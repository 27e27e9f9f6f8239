-- What our sender wrote, given once each and in order to a fresh receiver with its payload types, arrives whole.
use Prim.Native.Nat.{ℕ, suc, ◌≤◌}
use mathlib.Core.Path.{◌≡◌, ◌∙◌, refl, ap, ap₂, sym, subst}
use mathlib.Core.List.{List, [], ◌∷◌, ◌++◌, map}
use mathlib.Core.Bool.{Bool, true, false, cond}
use Rattle.base.specs.Every.{Every}
use Rattle.packet_spec.specs.Limits.{level}
use Rattle.packet_spec.specs.Reading.{Content, Read, holds}
use Rattle.packet_spec.specs.Encoding.{Admits}
use Rattle.delivery.specs.Course.{Course, forward, late, jump, break, course_at, distance}
use Rattle.delivery.specs.Record.{Entry, block}
use Rattle.delivery.specs.Run.{Rules, sender_of}
use Rattle.delivery.specs.Internal.Core as core
use Rattle.delivery.specs.Internal.Core.{sent}
use Rattle.receiver_spec.specs.State.{fresh_receiver, Receiver, kept_by, read_by, source_expected}
use Rattle.receiver_spec.specs.Step.{first_step, step_by, step_read, step_of}
use Rattle.receiver_spec.specs.Record.{entries_of}
use Rattle.sender_spec.specs.State.{Settings, SentBlock, Sender, fresh_sender}
use Rattle.sender_spec.specs.Settings.{settings_number}
use Rattle.demands.specs.Ours.{ours}
use Rattle.demands.specs.Sending.{Call, Written, primary_sent, writes, sender_after, written}
use Rattle.demands.specs.Demand2.{ReadBack}
use Rattle.delivery.proofs.NoLoss.{before, adds_own, after_own}
use Rattle.receiver_spec.proofs.Core.{packet_of, state, step_adds_lem, step_after, keeps_types}
use Rattle.receiver_spec.proofs.OneEach.{OneEach, none, one}
use Rattle.sender_spec.proofs.StaysSendable.{fresh_good}
use Rattle.demands.proofs.FollowsLog.{Move, still, moved, sends, move, rules, Packets}
use Rattle.demands.proofs.Demand2.{read_by_lem, good_back}
use Rattle.demands.proofs.Recorded.{is_sent_lem}
use Rattle.demands.proofs.OursKeeps.{small, packets}

-- every packet has the sender's source
abbrev From : Settings → Written → Type 0
From x w = w.content.source ≡ x.source

all_from : (x : Settings) (cs : List Call) (s : Sender) → s.settings ≡ x → Every (From x) (written ours s cs)
all_from x [] s e = tt
all_from x (c ∷ cs) s e = go (sender_after ours s c) (writes ours s c) (move s c) (all_from x cs (sender_after ours s c))
  where
    go : (s₁ : Sender) (ws : List Written) → Move s s₁ ws → (s₁.settings ≡ x → Every (From x) (written ours s₁ cs)) → Every (From x) (ws ++ written ours s₁ cs)
    go s₁ ws still f = f e
    go s₁ ws (moved s₂ l a b m d) f = f (a ∙ e)
    go s₁ ws (sends t p l n u w) f = (ap (λ (y : Settings). y.source) e, f e)

-- behind a packet from this source a receiver still admits it
admits_on : (r : Receiver) (p : List ℕ) (c : Content) (source : ℕ) → c.source ≡ source → Admits (source_expected r) source
    → Admits (source_expected (step_read r p (holds c)).receiver) source
admits_on r p c source e a = go r.has_source (course_at r.expected (kept_by r) c.sequence)
  where
    go : (h : Bool) (v : Course) → Admits (source_expected (cond h (step_by v r p c (distance c.sequence r.expected)) (first_step r p c)).receiver) source
    go true forward = sym e
    go true late = a
    go true jump = a
    go true break = sym e
    go false v = sym e

module _ (x : Settings) (R : ℕ) (small : R ≤ level) (first : ℕ) (f : ℕ → SentBlock) where
  abbrev P : Rules
  P = rules R small first f

  -- a receiver that has accepted the k packets before these
  one_each : (ws : List Written) (k : ℕ) (r : Receiver) → r.t140 ≡ x.t140 → r.red ≡ x.red → Admits (source_expected r) x.source → state r ≡ before P k
      → Every (ReadBack ours x) ws → Every (From x) ws → Packets R small first f k ws → OneEach r (map (λ w. w.packet) ws) (map primary_sent ws)
  unfolding step_of
  one_each [] k r a b h at back from is = none r
  one_each (w ∷ ws) k r a b h at back from is =
      let p = w.packet in
      let c = w.content in
      let q : read_by r p ≡ holds c = read_by_lem x p c back.0.read r a b h in
      let sends : packet_of c ≡ sent (sender_of P) k = is_sent_lem P k c is.0 in
      let r₁ = (step_read r p (read_by r p)).receiver in
      let types = keeps_types r p (read_by r p) in
      let on : Admits (source_expected r₁) x.source = subst (λ (y : Read). Admits (source_expected (step_read r p y).receiver) x.source) (sym q) (admits_on r p c x.source from.0 h) in
      let next : state r₁ ≡ before P (suc k) =
      ap (λ (y : Read). state (step_read r p y).receiver) q ∙ step_after r p c q ∙ ap₂ {C = core.BlockReceiver} core.receiver_after at sends ∙ after_own P k in
      one r p (primary_sent w)
      (ap (λ (y : Read). entries_of r p (step_read r p y).answer) q
      ∙ step_adds_lem r p c q
      ∙ ap₂ {C = List Entry} core.adds at sends
      ∙ adds_own P k
      ∙ ap (λ (y : List ℕ). block y ∷ []) (sym is.0.primary))
      (one_each ws (suc k) r₁ (types.0 ∙ a) (types.1 ∙ b) on next back.1 from.1 is.1)

-- from a fresh sender on
pub all_arrive : (x : Settings) (calls : List Call) → settings_number x ≡ 0
    → OneEach (fresh_receiver x.t140 x.red) (map (λ w. w.packet) (written ours (fresh_sender x) calls)) (map primary_sent (written ours (fresh_sender x) calls))
all_arrive x calls good =
    one_each x _ (small x calls good) _ _ (written ours (fresh_sender x) calls) 0 (fresh_receiver x.t140 x.red) refl refl tt refl
    (good_back x calls (fresh_sender x) refl (fresh_good x)) (all_from x calls (fresh_sender x) refl) (packets x calls good)
