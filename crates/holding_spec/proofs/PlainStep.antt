-- The rule, by the answer of the plain step.
use Prim.Native.Nat.{ℕ, ◌-◌, ◌<◌, ◌≤◌}
use mathlib.Core.Path.{◌≡◌, ◌∙◌, refl, ap, sym}
use mathlib.Core.Bool.{Bool, true, false, cond, not, ◌||◌}
use mathlib.Core.List.{List}
use mathlib.Core.Option.{none, some}
use native.Mathlib.Omega.{arith}
use lib.Dec.{ltb, leb}
use lib.IntN.{pos}
use borrow.Author.Tests.{lt-ltb, le-ltb, le-leb, lt-leb, eq-eqb, ne_eqb}
use Rattle.packet_spec.specs.Reading.{Content, holds}
use Rattle.delivery.specs.Course.{distance, Course, forward, late, jump, break, course_at}
use Rattle.receiver_spec.specs.Distance.{signed}
use Rattle.receiver_spec.specs.State.{Receiver, kept_by, with_kept, keeping_none}
use Rattle.receiver_spec.specs.Answers as plain
use Rattle.receiver_spec.specs.Answers.{Step}
use Rattle.receiver_spec.specs.Step.{moved_to, given_at, step_read, step_by, first_step}
use Rattle.receiver_spec.specs.Record.{loss_of}
use Rattle.holding_spec.specs.Answers.{neither, held, new, waits, is_late, HoldingStep}
use Rattle.holding_spec.specs.Rule.{longest_hold, Arrived, ahead, would_lose, waited, by_course, first_arrives, arrives}
use Rattle.holding_spec.specs.State.{holds_none, holds_one}
use Rattle.holding_spec.specs.Internal.PlainStep.{told, was_forward, was_break}

abbrev pub arrived : ℕ → List ℕ → Content → Arrived
arrived t p c = record { arrival = t; bytes = p; content = c }

-- a packet that goes by its distance alone
abbrev pub goes_by : Receiver → List ℕ → Content → Step
goes_by r p c = record {
  receiver = with_kept (moved_to r c.source c.sequence) r.has_kept r.kept;
  answer = plain.gives (given_at p c (distance c.sequence r.expected));
}

module _ (r : Receiver) (t : ℕ) (p : List ℕ) (c : Content) where
  abbrev pub x : Arrived
  x = arrived t p c

  abbrev pub step : Step
  step = step_read r p (holds c)

  abbrev d : ℕ
  d = distance c.sequence r.expected

  abbrev course : Course
  course = course_at r.expected (kept_by r) c.sequence

  -- none is held: the packet waits where it would cause loss, else the step is made
  abbrev waits_new : HoldingStep
  waits_new = record { receiver = holds_one (keeping_none r) c.sequence t t; answer = waits (signed d) new }

  abbrev goes_new : Step → HoldingStep
  goes_new s = record { receiver = holds_none s.receiver t; answer = told new neither false s.answer }

  alone : (b : Bool) → ltb 0 (loss_of step.answer) ≡ b → arrives r t x none ≡ cond b waits_new (goes_new step)
  alone b e = go r.has_source course b e
    where
      go : (h : Bool) (v : Course) (b : Bool) → ltb 0 (loss_of (cond h (step_by v r p c d) (first_step r p c)).answer) ≡ b
          → cond h (by_course v r t x none) (first_arrives r t x none) ≡ cond b waits_new (goes_new (cond h (step_by v r p c d) (first_step r p c)))
      go true forward true e = rw e
      go true forward false e = rw e
      go true late true e = absurd (let z : ◌≡◌ {A = ℕ} 0 1 = cc in omega arith)
      go true late false e = refl
      go true jump true e = absurd (let z : ◌≡◌ {A = ℕ} 0 1 = cc in omega arith)
      go true jump false e = refl
      go true break true e = absurd (let z : ◌≡◌ {A = ℕ} 0 1 = cc in omega arith)
      go true break false e = refl
      go false v true e = absurd (let z : ◌≡◌ {A = ℕ} 0 1 = cc in omega arith)
      go false v false e = refl

  pub alone_waits : ltb 0 (loss_of step.answer) ≡ true → arrives r t x none ≡ waits_new
  alone_waits = alone true

  pub alone_goes : ltb 0 (loss_of step.answer) ≡ false → arrives r t x none ≡ goes_new step
  alone_goes = alone false

  -- one is held since a
  module _ (a : ℕ) (lent : List ℕ) (b : Content) where
    abbrev pub y : Arrived
    y = arrived a lent b

    abbrev both : HoldingStep
    both = arrives r t x (some y)

    pub behind_copy : r.has_source ≡ true → c.sequence ≡ b.sequence → both ≡ record { receiver = holds_one r b.sequence a t; answer = is_late (signed d) held }
    behind_copy h e = rw (h, eq-eqb c.sequence b.sequence e)

    -- another packet: the step decides
    module _ (h : r.has_source ≡ true) (e : c.sequence ≡ b.sequence → ⊥) where
      by_course_lem : both ≡ by_course course r t x (some y)
      by_course_lem = rw (h, ne_eqb c.sequence b.sequence e)

      step_by_lem : step ≡ step_by course r p c d
      step_by_lem = rw h

      pub behind_break : was_break step.answer ≡ true
          → both ≡ record { receiver = holds_none (goes_by r lent b).receiver t; answer = told held neither true (goes_by r lent b).answer }
      behind_break w = by_course_lem ∙ go course (sym (ap (λ (s : Step). was_break s.answer) step_by_lem) ∙ w)
        where
          go : (v : Course) → was_break (step_by v r p c d).answer ≡ true
              → by_course v r t x (some y) ≡ record { receiver = holds_none (goes_by r lent b).receiver t; answer = told held neither true (goes_by r lent b).answer }
          go forward w = absurd (let z : ◌≡◌ {A = ℕ} 0 1 = cc in omega arith)
          go late w = absurd (let z : ◌≡◌ {A = ℕ} 0 1 = cc in omega arith)
          go jump w = absurd (let z : ◌≡◌ {A = ℕ} 0 1 = cc in omega arith)
          go break w = refl

      -- both are forward: the held one is the nearer
      pub behind_farther : was_forward step.answer ≡ true → ahead r y ≤ ahead r x
          → both ≡ record { receiver = holds_one (goes_by (keeping_none r) lent b).receiver c.sequence t t; answer = told held new false (goes_by (keeping_none r) lent b).answer }
      behind_farther w near = by_course_lem ∙ go course (sym (ap (λ (s : Step). was_forward s.answer) step_by_lem) ∙ w)
        where
          go : (v : Course) → was_forward (step_by v r p c d).answer ≡ true
              → by_course v r t x (some y) ≡ record { receiver = holds_one (goes_by (keeping_none r) lent b).receiver c.sequence t t; answer = told held new false (goes_by (keeping_none r) lent b).answer }
          go forward w = rw (le-ltb (ahead r x) (ahead r y) near)
          go late w = absurd (let z : ◌≡◌ {A = ℕ} 0 1 = cc in omega arith)
          go jump w = absurd (let z : ◌≡◌ {A = ℕ} 0 1 = cc in omega arith)
          go break w = absurd (let z : ◌≡◌ {A = ℕ} 0 1 = cc in omega arith)

      -- else the step is made, and the held one stays
      pub behind_nearer : ahead r x < ahead r y → was_break step.answer ≡ false
          → both ≡ record { receiver = holds_one step.receiver b.sequence a t; answer = told new held false step.answer }
      behind_nearer near w =
          by_course_lem ∙ go course (sym (ap (λ (s : Step). was_break s.answer) step_by_lem) ∙ w)
          ∙ sym (ap (λ (s : Step). record { receiver = holds_one s.receiver b.sequence a t; answer = told new held false s.answer }) step_by_lem)
        where
          go : (v : Course) → was_break (step_by v r p c d).answer ≡ false
              → by_course v r t x (some y) ≡ record { receiver = holds_one (step_by v r p c d).receiver b.sequence a t; answer = told new held false (step_by v r p c d).answer }
          go forward w = rw (lt-ltb (ahead r x) (ahead r y) near)
          go late w = refl
          go jump w = refl
          go break w = absurd (let z : ◌≡◌ {A = ℕ} 0 1 = cc in omega arith)

      pub behind_other : was_forward step.answer ≡ false → was_break step.answer ≡ false
          → both ≡ record { receiver = holds_one step.receiver b.sequence a t; answer = told new held false step.answer }
      behind_other u w =
          by_course_lem ∙ go course (sym (ap (λ (s : Step). was_forward s.answer) step_by_lem) ∙ u) (sym (ap (λ (s : Step). was_break s.answer) step_by_lem) ∙ w)
          ∙ sym (ap (λ (s : Step). record { receiver = holds_one s.receiver b.sequence a t; answer = told new held false s.answer }) step_by_lem)
        where
          go : (v : Course) → was_forward (step_by v r p c d).answer ≡ false → was_break (step_by v r p c d).answer ≡ false
              → by_course v r t x (some y) ≡ record { receiver = holds_one (step_by v r p c d).receiver b.sequence a t; answer = told new held false (step_by v r p c d).answer }
          go forward u w = absurd (let z : ◌≡◌ {A = ℕ} 0 1 = cc in omega arith)
          go late u w = refl
          go jump u w = refl
          go break u w = absurd (let z : ◌≡◌ {A = ℕ} 0 1 = cc in omega arith)

    -- before the first packet
    pub behind_first : r.has_source ≡ false → both ≡ record { receiver = holds_one step.receiver b.sequence a t; answer = told new held false step.answer }
    behind_first h = rw h

-- without a packet
module _ (r : Receiver) (t a : ℕ) (lent : List ℕ) (b : Content) where
  pub wait_stays : ltb 0 (loss_of (goes_by r lent b).answer) ≡ true → t - a < longest_hold
      → waited r t (some (arrived a lent b)) ≡ record { receiver = holds_one r b.sequence a t; answer = waits (pos 0) held }
  wait_stays e early = rw (e, lt-leb longest_hold (t - a) early)

  abbrev pub goes_held : HoldingStep
  goes_held = record { receiver = holds_none (goes_by r lent b).receiver t; answer = told held neither false (goes_by r lent b).answer }

  pub wait_closed : ltb 0 (loss_of (goes_by r lent b).answer) ≡ false → waited r t (some (arrived a lent b)) ≡ goes_held
  wait_closed e = rw e

  pub wait_over : longest_hold ≤ t - a → waited r t (some (arrived a lent b)) ≡ goes_held
  wait_over over = go (would_lose r (arrived a lent b))
    where
      go : (w : Bool) → cond {A = HoldingStep} (not w || leb longest_hold (t - a)) goes_held (record { receiver = holds_one r b.sequence a t; answer = waits (pos 0) held }) ≡ goes_held
      go true = rw (le-leb longest_hold (t - a) over)
      go false = refl
