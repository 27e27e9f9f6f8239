-- 02, request 5: what is held back, what goes out and when. The record of demand 3 is that of the packets handed out, so that alone
-- would let a receiver hold nothing, or hold on for ever.
use Rattle.std.specs.Prelude.{ℕ, ◌-◌, ◌<◌, ◌≤◌, ◌≡◌, List, [], Bool, true, false, ◌⊎◌}
use Rattle.std.proofs.Math.Option.{Option, none, some}
use Rattle.base.specs.Checks.{number_by}
use Rattle.packet_spec.specs.Reading.{Content, holds}
use Rattle.delivery.specs.Course.{Course, forward, late, jump, break, distance}
use Rattle.delivery.specs.Record.{Entry}
use Rattle.receiver_spec.specs.State.{Receiver, with_kept, keeping_none, read_by}
use Rattle.receiver_spec.specs.Record as plain
use Rattle.receiver_spec.specs.Answers.{is_accepted}
use Rattle.holding_spec.specs.State.{HoldingReceiver, holds_none, holds_one, holding_checks}
use Rattle.holding_spec.specs.Answers.{HoldingAnswer, refuses, waits, is_late, is_jump, is_break, gives}
use Rattle.holding_spec.specs.Record as held
use Rattle.demands.specs.Line.{Line}
use Rattle.demands.specs.Courses.{HasCourse}

-- the call passes its checks with no packet held
pub record NoneHeld (s : HoldingReceiver) (t : ℕ) (lent : List ℕ) : Type 0 where
  pub passes : number_by (holding_checks s t lent) ≡ 0
  pub is_none : s.has_held ≡ false

-- or with one, which is lent back and is forward
pub record OneHeld (s : HoldingReceiver) (t : ℕ) (lent : List ℕ) : Type 0 where
  pub passes : number_by (holding_checks s t lent) ≡ 0
  pub is_one : s.has_held ≡ true
  pub ahead : HasCourse (keeping_none s.receiver) lent forward

-- a packet of this course arrives behind it
pub record Behind (s : HoldingReceiver) (t : ℕ) (lent p : List ℕ) (v : Course) : Type 0 where
  pub one : OneHeld s t lent
  pub packet : HasCourse s.receiver p v
  pub other : packet.content.sequence ≡ one.ahead.content.sequence → ⊥

-- "asks for the same packet again"
abbrev pub asks_again : HoldingAnswer → Bool
asks_again (refuses n) = false
asks_again (waits z keep) = false
asks_again (is_late z keep) = false
asks_again (is_jump z keep) = false
asks_again (is_break g) = false
asks_again (gives of keep again g) = again

module _ (l : Line) where
  -- what a call adds to the record, and what the line's step would
  abbrev pub adds : HoldingReceiver → ℕ → List ℕ → Option (List ℕ) → List Entry
  adds s t lent p = held.entries_of s (record { clock = t; lent = lent; packet = p }) (l.hold s t lent p).answer

  abbrev pub step_adds : Receiver → List ℕ → List Entry
  step_adds r p = plain.entries_of r p (l.step r p).answer

  -- the held packet goes out: by the step, but that the number kept stays
  abbrev pub behind_held : Receiver → List ℕ → Receiver
  behind_held r lent = with_kept (l.step (keeping_none r) lent).receiver r.has_kept r.kept

  -- how far ahead of the next number to hand out
  abbrev pub far_of : HoldingReceiver → Content → ℕ
  far_of s c = distance c.sequence s.receiver.expected

  pub record Holding : Type 0 where
    -- none held: the call is the step, but for a packet that would cause loss, which is held
    pub quiet : (s : HoldingReceiver) (t : ℕ) (lent : List ℕ) → NoneHeld s t lent → (adds s t lent none ≡ []) × ((l.hold s t lent none).receiver ≡ holds_none s.receiver t)
    pub stepped : (s : HoldingReceiver) (t : ℕ) (lent p : List ℕ) → NoneHeld s t lent
        → is_accepted (l.step s.receiver p).answer ≡ true → plain.loss_of (l.step s.receiver p).answer ≡ 0
        → (adds s t lent (some p) ≡ step_adds s.receiver p) × ((l.hold s t lent (some p)).receiver ≡ holds_none (l.step s.receiver p).receiver t)
    pub held_back : (s : HoldingReceiver) (t : ℕ) (lent p : List ℕ) (c : Content) → NoneHeld s t lent → read_by s.receiver p ≡ holds c
        → 0 < plain.loss_of (l.step s.receiver p).answer
        → (adds s t lent (some p) ≡ []) × ((l.hold s t lent (some p)).receiver ≡ holds_one (keeping_none s.receiver) c.sequence t t)
    -- one held: it waits, up to 1,000 ms, while something would be lost
    pub waits : (s : HoldingReceiver) (t : ℕ) (lent : List ℕ) → OneHeld s t lent
        → 0 < plain.loss_of (l.step (keeping_none s.receiver) lent).answer → t - s.arrival < 1000
        → (adds s t lent none ≡ []) × ((l.hold s t lent none).receiver ≡ holds_one s.receiver s.held s.arrival t)
    pub due : (s : HoldingReceiver) (t : ℕ) (lent : List ℕ) → OneHeld s t lent
        → (plain.loss_of (l.step (keeping_none s.receiver) lent).answer ≡ 0) ⊎ (1000 ≤ t - s.arrival)
        → (adds s t lent none ≡ step_adds (keeping_none s.receiver) lent) × ((l.hold s t lent none).receiver ≡ holds_none (behind_held s.receiver lent) t)
    -- a copy of it is late
    pub copy_late : (s : HoldingReceiver) (t : ℕ) (lent p : List ℕ) (c : Content) → OneHeld s t lent → read_by s.receiver p ≡ holds c → c.sequence ≡ s.held
        → (adds s t lent (some p) ≡ []) × ((l.hold s t lent (some p)).receiver ≡ holds_one s.receiver s.held s.arrival t)
    -- of two forward packets the nearer goes out, and the other is kept
    pub nearer : (s : HoldingReceiver) (t : ℕ) (lent p : List ℕ) (b : Behind s t lent p forward) → far_of s b.packet.content < far_of s b.one.ahead.content
        → (adds s t lent (some p) ≡ step_adds s.receiver p) × ((l.hold s t lent (some p)).receiver ≡ holds_one (l.step s.receiver p).receiver s.held s.arrival t)
    pub farther : (s : HoldingReceiver) (t : ℕ) (lent p : List ℕ) (b : Behind s t lent p forward) → far_of s b.one.ahead.content < far_of s b.packet.content
        → (adds s t lent (some p) ≡ step_adds (keeping_none s.receiver) lent)
        × ((l.hold s t lent (some p)).receiver ≡ holds_one (l.step (keeping_none s.receiver) lent).receiver b.packet.content.sequence t t)
    -- a late packet and a jump release nothing
    pub late_holds : (s : HoldingReceiver) (t : ℕ) (lent p : List ℕ) → Behind s t lent p late
        → (adds s t lent (some p) ≡ []) × ((l.hold s t lent (some p)).receiver ≡ holds_one s.receiver s.held s.arrival t)
    pub jump_holds : (s : HoldingReceiver) (t : ℕ) (lent p : List ℕ) → Behind s t lent p jump
        → (adds s t lent (some p) ≡ []) × ((l.hold s t lent (some p)).receiver ≡ holds_one (l.step s.receiver p).receiver s.held s.arrival t)
    -- a break sends it out, leaves the kept number and asks for the same packet again
    pub before_break : (s : HoldingReceiver) (t : ℕ) (lent p : List ℕ) → Behind s t lent p break
        → (adds s t lent (some p) ≡ step_adds (keeping_none s.receiver) lent) × ((l.hold s t lent (some p)).receiver ≡ holds_none (behind_held s.receiver lent) t)
        × (asks_again (l.hold s t lent (some p)).answer ≡ true)
