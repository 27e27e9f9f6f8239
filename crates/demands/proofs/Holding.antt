-- Our line holds packets as request 5 has it.
use Prim.Native.Nat.{ℕ, ◌-◌, ◌<◌, ◌≤◌}
use mathlib.Core.Path.{◌≡◌, ◌∙◌, refl, ap, ap₂, sym}
use mathlib.Core.List.{List, []}
use mathlib.Core.Bool.{Bool, true, false, cond, not, ◌&&◌}
use mathlib.Core.Logic.{◌⊎◌, ⊎_elim}
use mathlib.Core.Option.{Option, none, some}
use native.Mathlib.Omega.{arith}
use lib.Dec.{ltb, eqb}
use borrow.Author.Tests.{lt-ltb, le-ltb, eqb-true}
use Rattle.base.proofs.InOrder.{none_applies}
use Rattle.packet_spec.specs.Reading.{Content, Read, holds, refused}
use Rattle.delivery.specs.Course.{Course, forward, late, jump, break, distance}
use Rattle.delivery.specs.Record.{Entry}
use Rattle.receiver_spec.specs.State.{Receiver, with_kept, keeping_none, read_by}
use Rattle.receiver_spec.specs.Answers as answers
use Rattle.receiver_spec.specs.Answers.{Step, StepAnswer, is_accepted}
use Rattle.receiver_spec.specs.Step.{given_at, step_read, step_by, step_of}
use Rattle.receiver_spec.specs.Record as plain
use Rattle.holding_spec.specs.State.{HoldingReceiver, holds_none, holds_one, is_numbered, holding_checks}
use Rattle.holding_spec.specs.Answers.{Which, neither, held, new, HoldingStep}
use Rattle.holding_spec.specs.Rule.{Arrived, waited, arrives}
use Rattle.holding_spec.specs.Step.{arrived_at, lent_back, arrives_read, holding_step}
use Rattle.holding_spec.specs.Record.{entries_of}
use Rattle.holding_spec.specs.Internal.PlainStep.{told, was_forward, was_break}
use Rattle.holding_spec.proofs.Refusals.{passed}
use Rattle.holding_spec.proofs.PlainStep as by
use Rattle.holding_spec.proofs.PlainStep.{arrived, goes_by}
use Rattle.demands.specs.Ours.{ours}
use Rattle.demands.specs.Holding.{NoneHeld, OneHeld, Behind, asks_again, behind_held, Holding}
use Rattle.demands.proofs.Courses.{step_by_lem}

-- what a call adds and leaves, where it comes to x
abbrev Comes : HoldingReceiver → ℕ → List ℕ → Option (List ℕ) → List Entry → HoldingReceiver → Type 0
Comes s t lent p es left =
    (entries_of s (record { clock = t; lent = lent; packet = p }) (holding_step s t lent p).answer ≡ es) × ((holding_step s t lent p).receiver ≡ left)

comes : (s : HoldingReceiver) (t : ℕ) (lent : List ℕ) (p : Option (List ℕ)) (x : HoldingStep) {es : List Entry} {left : HoldingReceiver} → holding_step s t lent p ≡ x
    → entries_of s (record { clock = t; lent = lent; packet = p }) x.answer ≡ es → x.receiver ≡ left → Comes s t lent p es left
comes s t lent p x e f g =
    (ap (λ (y : HoldingStep). entries_of s (record { clock = t; lent = lent; packet = p }) y.answer) e ∙ f, ap (λ (y : HoldingStep). y.receiver) e ∙ g)

-- the new packet by the step's answer adds what the step does
told_adds : (s : HoldingReceiver) (t : ℕ) (lent p : List ℕ) (keep : Which) (a : StepAnswer)
    → entries_of s (record { clock = t; lent = lent; packet = some p }) (told new keep false a) ≡ plain.entries_of s.receiver p a
told_adds s t lent p keep (answers.refuses n) = refl
told_adds s t lent p keep (answers.is_late z) = refl
told_adds s t lent p keep (answers.is_jump z) = refl
told_adds s t lent p keep (answers.is_break g) = refl
told_adds s t lent p keep (answers.gives g) = refl

module _ (s : HoldingReceiver) (t : ℕ) (lent : List ℕ) where
  abbrev r : Receiver
  r = s.receiver

  -- none held
  module _ (n : NoneHeld s t lent) where
    empty : lent_back s lent ≡ none
    empty = ap (λ (b : Bool). cond b (arrived_at s.arrival lent (read_by r lent)) none) n.is_none

    quiet : Comes s t lent none [] (holds_none r t)
    quiet = comes s t lent none (waited r t none) (passed s t lent none n.passes ∙ ap (waited r t) empty) refl refl

    alone : (p : List ℕ) → holding_step s t lent (some p) ≡ arrives_read s t p none (read_by r p)
    alone p = passed s t lent (some p) n.passes ∙ ap (λ (h : Option Arrived). arrives_read s t p h (read_by r p)) empty

    stepped : (p : List ℕ) → is_accepted (step_of r p).answer ≡ true → plain.loss_of (step_of r p).answer ≡ 0
        → Comes s t lent (some p) (plain.entries_of r p (step_of r p).answer) (holds_none (step_of r p).receiver t)
    unfolding step_of
    stepped p = go (read_by r p) (alone p)
      where
        go : (x : Read) → holding_step s t lent (some p) ≡ arrives_read s t p none x → is_accepted (step_read r p x).answer ≡ true → plain.loss_of (step_read r p x).answer ≡ 0
            → Comes s t lent (some p) (plain.entries_of r p (step_read r p x).answer) (holds_none (step_read r p x).receiver t)
        go (refused k) e a l = absurd (let z : ◌≡◌ {A = ℕ} 0 1 = cc in omega arith)
        go (holds c) e a l =
            let none_lost : ltb 0 (plain.loss_of (step_read r p (holds c)).answer) ≡ false = le-ltb 0 (plain.loss_of (step_read r p (holds c)).answer) (omega (arith, l)) in
            comes s t lent (some p) _ (e ∙ by.alone_goes r t p c none_lost) (told_adds s t lent p _ (step_read r p (holds c)).answer) refl

    held_back : (p : List ℕ) (c : Content) → read_by r p ≡ holds c → 0 < plain.loss_of (step_of r p).answer → Comes s t lent (some p) [] (holds_one (keeping_none r) c.sequence t t)
    unfolding step_of
    held_back p c q l =
        let lost : ltb 0 (plain.loss_of (step_read r p (holds c)).answer) ≡ true = sym (ap (λ (x : Read). ltb 0 (plain.loss_of (step_read r p x).answer)) q) ∙ lt-ltb 0 _ l in
        comes s t lent (some p) _ (alone p ∙ ap (arrives_read s t p none) q ∙ by.alone_waits r t p c lost) refl refl

  -- one held, which is forward
  module _ (o : OneHeld s t lent) where
    abbrev b : Content
    b = o.ahead.content

    back : lent_back s lent ≡ some (arrived s.arrival lent b)
    back = ap₂ {C = Option Arrived} (λ (h : Bool) (x : Read). cond h (arrived_at s.arrival lent x) none) o.is_one o.ahead.read

    number : b.sequence ≡ s.held
    number = eqb-true b.sequence s.held (go (eqb b.sequence s.held) (sym (ap₂ {C = Bool} (λ (h : Bool) (x : Read). h && not (is_numbered s.held x)) o.is_one o.ahead.read) ∙ (none_applies (holding_checks s t lent) (omega arith, (omega arith, (omega arith, tt))) o.passes).1.1.0))
      where
        go : (x : Bool) → not x ≡ false → x ≡ true
        go true e = refl
        go false e = sym e

    -- the step of the held packet
    out : step_of (keeping_none r) lent ≡ step_by forward (keeping_none r) lent b (distance b.sequence r.expected)
    out = step_by_lem (keeping_none r) lent forward o.ahead

    out_adds : plain.entries_of (keeping_none r) lent (answers.gives (given_at lent b (distance b.sequence r.expected))) ≡ plain.entries_of (keeping_none r) lent (step_of (keeping_none r) lent).answer
    out_adds = sym (ap (λ (x : Step). plain.entries_of (keeping_none r) lent x.answer) out)

    out_behind : (goes_by r lent b).receiver ≡ behind_held ours r lent
    out_behind = sym (ap (λ (x : Step). with_kept x.receiver r.has_kept r.kept) out)

    lost_is : plain.loss_of (goes_by r lent b).answer ≡ plain.loss_of (step_of (keeping_none r) lent).answer
    lost_is = sym (ap (λ (x : Step). plain.loss_of x.answer) out)

    waiting : holding_step s t lent none ≡ waited r t (some (arrived s.arrival lent b))
    waiting = passed s t lent none o.passes ∙ ap (waited r t) back

    same : holds_one r b.sequence s.arrival t ≡ holds_one r s.held s.arrival t
    same = ap (λ (n : ℕ). holds_one r n s.arrival t) number

    waits : 0 < plain.loss_of (step_of (keeping_none r) lent).answer → t - s.arrival < 1000 → Comes s t lent none [] (holds_one r s.held s.arrival t)
    waits l early =
        let lost : ltb 0 (plain.loss_of (goes_by r lent b).answer) ≡ true = lt-ltb 0 (plain.loss_of (goes_by r lent b).answer) (omega (arith, l, lost_is)) in
        comes s t lent none _ (waiting ∙ by.wait_stays r t s.arrival lent b lost early) refl same

    due : (plain.loss_of (step_of (keeping_none r) lent).answer ≡ 0) ⊎ (1000 ≤ t - s.arrival)
        → Comes s t lent none (plain.entries_of (keeping_none r) lent (step_of (keeping_none r) lent).answer) (holds_none (behind_held ours r lent) t)
    due c = comes s t lent none (by.goes_held r t s.arrival lent b) (waiting ∙ go c) out_adds (ap (λ (x : Receiver). holds_none x t) out_behind)
      where
        go : (plain.loss_of (step_of (keeping_none r) lent).answer ≡ 0) ⊎ (1000 ≤ t - s.arrival) → waited r t (some (arrived s.arrival lent b)) ≡ by.goes_held r t s.arrival lent b
        go = ⊎_elim
            (λ l. by.wait_closed r t s.arrival lent b (le-ltb 0 (plain.loss_of (goes_by r lent b).answer) (omega (arith, l, lost_is))))
            (λ over. by.wait_over r t s.arrival lent b over)

    arriving : (p : List ℕ) (c : Content) → read_by r p ≡ holds c → holding_step s t lent (some p) ≡ arrives r t (arrived t p c) (some (arrived s.arrival lent b))
    arriving p c q = passed s t lent (some p) o.passes ∙ ap₂ {C = HoldingStep} (λ (h : Option Arrived) (x : Read). arrives_read s t p h x) back q

    copy_late : (p : List ℕ) (c : Content) → read_by r p ≡ holds c → c.sequence ≡ s.held → Comes s t lent (some p) [] (holds_one r s.held s.arrival t)
    copy_late p c q n = comes s t lent (some p) _ (arriving p c q ∙ by.behind_copy r t p c s.arrival lent b o.ahead.sourced (n ∙ sym number)) refl same

  module _ (p : List ℕ) (v : Course) (h : Behind s t lent p v) where
    abbrev c : Content
    c = h.packet.content

    abbrev step : Step
    step = step_read r p (holds c)

    -- the step of the packet that arrived
    step_is : step ≡ step_of r p
    unfolding step_of
    step_is = sym (ap (step_read r p) h.packet.read)

    by_course_lem : step ≡ step_by v r p c (distance c.sequence r.expected)
    by_course_lem = step_is ∙ step_by_lem r p v h.packet

    tested : (f : StepAnswer → Bool) {b : Bool} → f (step_by v r p c (distance c.sequence r.expected)).answer ≡ b → f step.answer ≡ b
    tested f e = ap (λ (x : Step). f x.answer) by_course_lem ∙ e

    -- it is made, and the held one stays
    stays : arrives r t (arrived t p c) (some (arrived s.arrival lent (b h.one))) ≡ record { receiver = holds_one step.receiver (b h.one).sequence s.arrival t; answer = told new held false step.answer }
        → Comes s t lent (some p) (plain.entries_of r p (step_of r p).answer) (holds_one (step_of r p).receiver s.held s.arrival t)
    stays e =
        comes s t lent (some p) _ (arriving h.one p c h.packet.read ∙ e)
        (told_adds s t lent p held step.answer ∙ ap (λ (x : Step). plain.entries_of r p x.answer) step_is)
        (ap₂ {C = HoldingReceiver} (λ (x : Step) (n : ℕ). holds_one x.receiver n s.arrival t) step_is (number h.one))

    -- the held one goes out before it
    leaves : (keep : Which) (again : Bool) {left : HoldingReceiver} (x : HoldingStep) → arrives r t (arrived t p c) (some (arrived s.arrival lent (b h.one))) ≡ x
        → x.answer ≡ told held keep again (goes_by r lent (b h.one)).answer → x.receiver ≡ left
        → Comes s t lent (some p) (plain.entries_of (keeping_none r) lent (step_of (keeping_none r) lent).answer) left
    leaves keep again x e f g =
        comes s t lent (some p) x (arriving h.one p c h.packet.read ∙ e)
        (ap (entries_of s (record { clock = t; lent = lent; packet = some p })) f ∙ out_adds h.one) g

module _ (s : HoldingReceiver) (t : ℕ) (lent p : List ℕ) where
  abbrev far : Content → ℕ
  far x = distance x.sequence s.receiver.expected

  nearer : (h : Behind s t lent p forward) → far h.packet.content < far h.one.ahead.content
      → Comes s t lent (some p) (plain.entries_of s.receiver p (step_of s.receiver p).answer) (holds_one (step_of s.receiver p).receiver s.held s.arrival t)
  nearer h near =
      stays s t lent p forward h
      (by.behind_nearer s.receiver t p h.packet.content s.arrival lent h.one.ahead.content h.packet.sourced h.other near (tested s t lent p forward h was_break refl))

  farther : (h : Behind s t lent p forward) → far h.one.ahead.content < far h.packet.content
      → Comes s t lent (some p) (plain.entries_of (keeping_none s.receiver) lent (step_of (keeping_none s.receiver) lent).answer)
      (holds_one (step_of (keeping_none s.receiver) lent).receiver h.packet.content.sequence t t)
  farther h near =
      leaves s t lent p forward h new false _
      (by.behind_farther s.receiver t p h.packet.content s.arrival lent h.one.ahead.content h.packet.sourced h.other (tested s t lent p forward h was_forward refl) (omega arith))
      refl
      (ap (λ (x : Step). holds_one x.receiver h.packet.content.sequence t t) (sym (out s t lent h.one)))

  -- by its course the packet is neither forward nor a break
  keeps_held : (v : Course) (h : Behind s t lent p v) → was_forward (step_by v s.receiver p h.packet.content (far h.packet.content)).answer ≡ false
      → was_break (step_by v s.receiver p h.packet.content (far h.packet.content)).answer ≡ false
      → Comes s t lent (some p) (plain.entries_of s.receiver p (step_of s.receiver p).answer) (holds_one (step_of s.receiver p).receiver s.held s.arrival t)
  keeps_held v h u w =
      stays s t lent p v h
      (by.behind_other s.receiver t p h.packet.content s.arrival lent h.one.ahead.content h.packet.sourced h.other (tested s t lent p v h was_forward u) (tested s t lent p v h was_break w))

  late_holds : Behind s t lent p late → Comes s t lent (some p) [] (holds_one s.receiver s.held s.arrival t)
  late_holds h =
      let k = keeps_held late h refl refl in
      let e = step_by_lem s.receiver p late h.packet in
      (k.0 ∙ ap (λ (x : Step). plain.entries_of s.receiver p x.answer) e, k.1 ∙ ap (λ (x : Step). holds_one x.receiver s.held s.arrival t) e)

  jump_holds : Behind s t lent p jump → Comes s t lent (some p) [] (holds_one (step_of s.receiver p).receiver s.held s.arrival t)
  jump_holds h =
      let k = keeps_held jump h refl refl in
      (k.0 ∙ ap (λ (x : Step). plain.entries_of s.receiver p x.answer) (step_by_lem s.receiver p jump h.packet), k.1)

  before_break : (h : Behind s t lent p break)
      → Comes s t lent (some p) (plain.entries_of (keeping_none s.receiver) lent (step_of (keeping_none s.receiver) lent).answer) (holds_none (behind_held ours s.receiver lent) t)
      × (asks_again (holding_step s t lent (some p)).answer ≡ true)
  before_break h =
      let e = by.behind_break s.receiver t p h.packet.content s.arrival lent h.one.ahead.content h.packet.sourced h.other (tested s t lent p break h was_break refl) in (
        leaves s t lent p break h neither true _ e refl (ap (λ (x : Receiver). holds_none x t) (out_behind s t lent h.one)),
        ap (λ (x : HoldingStep). asks_again x.answer) (arriving s t lent h.one p h.packet.content h.packet.read ∙ e),
      )

pub holding_claim : Holding ours
holding_claim = record {
  quiet = quiet;
  stepped = λ s t lent p n. stepped s t lent n p;
  held_back = λ s t lent p c n. held_back s t lent n p c;
  waits = waits;
  due = due;
  copy_late = λ s t lent p c o. copy_late s t lent o p c;
  nearer = nearer;
  farther = farther;
  late_holds = late_holds;
  jump_holds = jump_holds;
  before_break = λ s t lent p h. let x = before_break s t lent p h in (x.0.0, x.0.1, x.1);
}
