-- Demand 2: over every list of calls the sender stays good, so each packet that it writes is read back; and what was typed is
-- what left and what waits.
use Prim.Native.Nat.{ℕ, zero, suc, ◌≤◌}
use mathlib.Core.Path.{◌≡◌, ◌∙◌, refl, ap, ap₂, sym, subst}
use mathlib.Core.List.{List, [], ◌∷◌, ◌++◌, map, append_assoc, append-nil}
use mathlib.Core.Bool.{true}
use native.Mathlib.Omega.{arith}
use lib.ListN.{length}
use Rattle.base.specs.Arrays.{over}
use Rattle.base.specs.Checks.{number_by}
use Rattle.base.specs.Every.{Every}
use Rattle.packet_spec.specs.Limits.{level}
use Rattle.packet_spec.specs.Header.{Any, Expected}
use Rattle.packet_spec.specs.Redundancy.{joined}
use Rattle.packet_spec.specs.Reading.{Content, reading, holds}
use Rattle.packet_spec.specs.Encoding.{Admits}
use Rattle.receiver_spec.specs.State.{Receiver, read_by, source_expected}
use Rattle.receiver_spec.specs.Step.{step_read, step_of}
use Rattle.receiver_spec.specs.Answers.{is_accepted}
use Rattle.sender_spec.specs.State.{Settings, Sender, fresh_sender}
use Rattle.sender_spec.specs.Answers as answers
use Rattle.sender_spec.specs.Answers.{CallResult, ClockResult}
use Rattle.sender_spec.specs.Settings.{settings_number}
use Rattle.sender_spec.specs.Offering.{sender_with}
use Rattle.sender_spec.specs.Calls.{open_sender, offer_of, clock_of}
use Rattle.sender_spec.specs.Packets.{due, taken, left, content_of, packet_bytes, after_packet}
use Rattle.sender_spec.specs.Clocking.{clock_checks}
use Rattle.demands.specs.Ours.{ours}
use Rattle.demands.specs.Sending.{Call, offer, clock, Written, primary_sent, written_by, accepted_text, writes, sender_after, written, typed, finally, sent_by}
use Rattle.demands.specs.Demand2.{ReadBack, AgesFall, Demand2}
use Rattle.text_spec.proofs.WellFormed.{characters_are_letters, letters_are_characters}
use Rattle.packet_spec.proofs.BlocksLie.{lies, block_is, ages_fall_lem}
use Rattle.receiver_spec.proofs.Core.{accepts}
use Rattle.sender_spec.proofs.Calls.{clock_sent_lem}
use Rattle.sender_spec.proofs.ChecksPassed.{open_passed, clock_passed}
use Rattle.sender_spec.proofs.StaysSendable.{Good, fresh_good, offer_good, clock_good, takes_front}
use Rattle.sender_spec.proofs.ReadsBack.{reads_back}
use Rattle.sender_spec.proofs.Shapes as shapes
use Rattle.sender_spec.proofs.Shapes.{Offer, Clock, offer_shape, clock_shape}
use Rattle.demands.proofs.FollowsLog.{Move, still, moved, sends, move}

pub after_good : (s : Sender) (c : Call) → Good s → Good (sender_after ours s c)
after_good s (offer t x) g = offer_good s t x g
after_good s (clock t p) g = clock_good s t p g

-- a receiver with the payload types, that admits the source, reads what such a reader reads
pub read_by_lem : (x : Settings) (p : List ℕ) (c : Content) → ((e : Expected) → Admits e x.source → reading level e x.t140 x.red p ≡ holds c)
    → (r : Receiver) → r.t140 ≡ x.t140 → r.red ≡ x.red → Admits (source_expected r) x.source → read_by r p ≡ holds c
read_by_lem x p c read r a b h = ap₂ (λ (t140 red : ℕ). reading level (source_expected r) t140 red p) a b ∙ read (source_expected r) h

-- a packet of a good sender with these settings
module _ (x : Settings) (s : Sender) (t : ℕ) (e : s.settings ≡ x) (ok : settings_number s.settings ≡ 0) (g : Good s) (is_due_lem : due s t ≡ true) (w : Written)
    (bytes : w.packet ≡ packet_bytes s t) (is : w.content ≡ content_of s t) where
  read : (f : Expected) → Admits f x.source → reading level f x.t140 x.red w.packet ≡ holds w.content
  read f a =
      ap (reading level f x.t140 x.red) bytes
      ∙ ap (λ (y : Settings). reading level f y.t140 y.red (packet_bytes s t)) (sym e)
      ∙ reads_back s t ok g is_due_lem f (subst (λ (y : Settings). Admits f y.source) (sym e) a)
      ∙ ap holds (sym is)

  accepted : (r : Receiver) → r.t140 ≡ x.t140 → r.red ≡ x.red → Admits (source_expected r) x.source → is_accepted (step_of r w.packet).answer ≡ true
  unfolding step_of
  accepted r a b h = ap (λ y. is_accepted (step_read r w.packet y).answer) (read_by_lem x w.packet w.content read r a b h) ∙ accepts r w.packet w.content

  back : ReadBack ours x w
  back = record { read = read; accepted = accepted }

-- of any good sender with these settings
pub good_back : (x : Settings) (cs : List Call) (s : Sender) → s.settings ≡ x → Good s → Every (ReadBack ours x) (written ours s cs)
good_back x [] s e g = tt
good_back x (c ∷ cs) s e g = go (sender_after ours s c) (writes ours s c) (move s c) (good_back x cs (sender_after ours s c)) (after_good s c g)
  where
    go : (s₁ : Sender) (ws : List Written) → Move s s₁ ws → (s₁.settings ≡ x → Good s₁ → Every (ReadBack ours x) (written ours s₁ cs)) → Good s₁
        → Every (ReadBack ours x) (ws ++ written ours s₁ cs)
    go s₁ ws still f h = f e h
    go s₁ ws (moved s₂ l a b m d) f h = f (a ∙ e) h
    go s₁ ws (sends t p l n u w) f h = (back x s t e n g u _ w refl, f e h)

-- what is read back has ages that fall
read_ages : (x : Settings) (ws : List Written) → Every (ReadBack ours x) ws → Every AgesFall ws
read_ages x [] h = tt
read_ages x (w ∷ ws) h = (ages_fall_lem level Any x.t140 x.red w.packet w.content (h.0.read Any tt), read_ages x ws h.1)

back_from_opening : (x : Settings) (calls : List Call) → (open_sender x).number ≡ 0 → Every (ReadBack ours x) (sent_by ours x calls)
back_from_opening x calls o =
    subst (λ (s : Sender). Every (ReadBack ours x) (written ours s calls)) (sym (open_passed x o).1) (good_back x calls (fresh_sender x) refl (fresh_good x))

abbrev primaries : List Written → List ℕ
primaries ws = joined (map primary_sent ws)

-- from any good sender on: what left, and then what waits, is what waited and what was typed
typed_from : (cs : List Call) (s : Sender) → Good s → primaries (written ours s cs) ++ (finally ours s cs).waiting ≡ s.waiting ++ typed ours s cs
typed_from [] s g = sym (append-nil s.waiting)
typed_from (offer t x ∷ cs) s g = go (offer_of s t x) (offer_shape s t x) (typed_from cs (offer_of s t x).sender (offer_good s t x g))
  where
    go : (r : CallResult) → Offer s t x r
        → primaries (written ours r.sender cs) ++ (finally ours r.sender cs).waiting ≡ r.sender.waiting ++ typed ours r.sender cs
        → primaries (written ours r.sender cs) ++ (finally ours r.sender cs).waiting ≡ s.waiting ++ (accepted_text r.number x ++ typed ours r.sender cs)
    go r (shapes.refused (suc n) h) e = e
    go r (shapes.refused zero h) e = absurd (omega arith)
    go r (shapes.joined a b c d) e = e ∙ append_assoc s.waiting x (typed ours (sender_with s t x) cs)
typed_from (clock t p ∷ cs) s g = go (clock_of s t p) (clock_shape s t p) (typed_from cs (clock_of s t p).sender (clock_good s t p g))
  where
    go : (r : ClockResult) → Clock s t p r
        → primaries (written ours r.sender cs) ++ (finally ours r.sender cs).waiting ≡ r.sender.waiting ++ typed ours r.sender cs
        → primaries (written_by r.answer r.lent t (content_of s t) ++ written ours r.sender cs) ++ (finally ours r.sender cs).waiting
        ≡ s.waiting ++ typed ours r.sender cs
    go r (shapes.refused n) e = e
    go r (shapes.quiet a b) e = e
    go r (shapes.sent a b c d) e =
        let s₁ = after_packet s t in
        append_assoc (taken s t) (primaries (written ours s₁ cs)) (finally ours s₁ cs).waiting
        ∙ ap (λ (l : List ℕ). taken s t ++ l) e
        ∙ sym (append_assoc (taken s t) (left s t) (typed ours s₁ cs))
        ∙ ap (λ (l : List ℕ). l ++ typed ours s₁ cs) (takes_front s t g)

joins : (s : Sender) (t : ℕ) (x : List ℕ) → (offer_of s t x).number ≡ 0 → (offer_of s t x).sender ≡ sender_with s t x
joins s t x = go (offer_of s t x) (offer_shape s t x)
  where
    go : (r : CallResult) → Offer s t x r → r.number ≡ 0 → r.sender ≡ sender_with s t x
    go r (shapes.refused n h) e = absurd (omega arith)
    go r (shapes.joined a b c d) e = refl

writes_when_due : (s : Sender) (t : ℕ) (p : List ℕ) → number_by (clock_checks s t) ≡ 0 → due s t ≡ true → length (packet_bytes s t) ≤ length p
    → ((clock_of s t p).answer ≡ answers.sent (length (packet_bytes s t))) × ((clock_of s t p).lent ≡ over (packet_bytes s t) p) × ((clock_of s t p).sender ≡ after_packet s t)
writes_when_due s t p e d h =
    let o = clock_passed s t e in
    let q = clock_sent_lem s t p (settings_number s.settings) refl o.0 o.1 d h in
    (ap (λ (r : ClockResult). r.answer) q, ap (λ (r : ClockResult). r.lent) q, ap (λ (r : ClockResult). r.sender) q)

pub demand_2 : Demand2 ours
demand_2 = record {
  letters = λ s n. (characters_are_letters s n, letters_are_characters s n);
  reads = λ e t140 red p. refl;
  hands_out = λ e t140 red p c k h. block_is p c (lies level e t140 red p c h) k;
  joins = joins;
  writes_when_due = writes_when_due;
  read_back = back_from_opening;
  ages_fall = λ x calls o. read_ages x (sent_by ours x calls) (back_from_opening x calls o);
  as_typed = λ x calls o.
      subst (λ (s : Sender). primaries (written ours s calls) ++ (finally ours s calls).waiting ≡ typed ours s calls) (sym (open_passed x o).1) (typed_from calls (fresh_sender x) (fresh_good x));
}
