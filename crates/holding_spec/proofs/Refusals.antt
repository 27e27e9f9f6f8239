-- Which calls are refused, and that these change nothing and add nothing.
use Prim.Native.Nat.{ℕ, zero, suc}
use mathlib.Core.Path.{◌≡◌, ◌∙◌, refl, ap, sym, subst}
use mathlib.Core.Bool.{true, false}
use mathlib.Core.List.{List, []}
use mathlib.Core.Option.{Option, none, some}
use native.Mathlib.Omega.{arith}
use Rattle.base.specs.Checks.{number_by}
use Rattle.base.proofs.InOrder.{refused_by_lem, passed_by}
use Rattle.base.proofs.Tests.{by_test}
use Rattle.packet_spec.specs.Reading.{Read, holds, refused}
use Rattle.delivery.specs.Course.{Course, forward, late, jump, break, course_at}
use Rattle.receiver_spec.specs.State.{Receiver, kept_by, keeping_none, read_by}
use Rattle.holding_spec.specs.State.{HoldingReceiver, holding_checks}
use Rattle.holding_spec.specs.Answers.{HoldingAnswer, refuses, waits, is_late, is_jump, is_break, gives, HoldingStep, was_refused}
use Rattle.holding_spec.specs.Rule.{Arrived, would_lose, is_due, is_nearer, is_held, waited, forward_arrives, by_course, arrives}
use Rattle.holding_spec.specs.Step.{lent_back, refusing, arrives_read, called, holding_step}
use Rattle.holding_spec.specs.Record.{Call, entries_of}

abbrev Accepts : HoldingStep → Type 0
Accepts x = was_refused x.answer ≡ false

module _ (r : Receiver) (t : ℕ) where
  waited_accepts : (h : Option Arrived) → Accepts (waited r t h)
  waited_accepts none = refl
  waited_accepts (some h) = by_test Accepts (is_due r t h) (λ _. refl) (λ _. refl)

  module _ (x : Arrived) where
    forward_accepts : (h : Option Arrived) → Accepts (forward_arrives r t x h)
    forward_accepts none = by_test Accepts (would_lose r x) (λ _. refl) (λ _. refl)
    forward_accepts (some h) = by_test Accepts (is_nearer r x h) (λ _. refl) (λ _. refl)

course_accepts : (v : Course) (r : Receiver) (t : ℕ) (x : Arrived) (h : Option Arrived) → Accepts (by_course v r t x h)
course_accepts forward r t x h = forward_accepts (keeping_none r) t x h
course_accepts late r t x h = refl
course_accepts jump r t x h = refl
course_accepts break r t x none = refl
course_accepts break r t x (some h) = refl

arrives_accepts : (r : Receiver) (t : ℕ) (x : Arrived) (h : Option Arrived) → Accepts (arrives r t x h)
arrives_accepts r t x h =
    by_test Accepts r.has_source
    (λ _. by_test Accepts (is_held h x) (λ _. refl) (λ _. course_accepts (course_at r.expected (kept_by r) x.content.sequence) r t x h))
    (λ _. refl)

module _ (s : HoldingReceiver) (t : ℕ) (lent : List ℕ) where
  -- 3, 5 and 27, in this order
  pub refused_first : (p : Option (List ℕ)) (n : ℕ) → number_by (holding_checks s t lent) ≡ suc n → holding_step s t lent p ≡ refusing s (suc n)
  unfolding holding_step
  refused_first p n e = refused_by_lem (refusing s) (holding_checks s t lent) (called s t lent p) (suc n) (omega arith) e

  pub passed : (p : Option (List ℕ)) → number_by (holding_checks s t lent) ≡ 0 → holding_step s t lent p ≡ called s t lent p
  unfolding holding_step
  passed p e = passed_by (refusing s) (holding_checks s t lent) (called s t lent p) (omega arith, (omega arith, (omega arith, tt))) e

  -- then the packet's own; a call without one is accepted
  pub waiting_accepts : number_by (holding_checks s t lent) ≡ 0 → Accepts (holding_step s t lent none)
  waiting_accepts e = ap (λ (x : HoldingStep). was_refused x.answer) (passed none e) ∙ waited_accepts s.receiver t (lent_back s lent)

  read_refused : (p : List ℕ) (n : ℕ) (x : Read) → (arrives_read s t p (lent_back s lent) x).answer ≡ refuses n → x ≡ refused n
  read_refused p n (refused k) e = let q : k ≡ n = cc in ap refused q
  read_refused p n (holds c) e =
      let a : true ≡ false = sym (ap was_refused e) ∙ arrives_accepts s.receiver t (record { arrival = t; bytes = p; content = c }) (lent_back s lent) in
      absurd (let z : ◌≡◌ {A = ℕ} 0 1 = cc in omega arith)

  module _ (p : List ℕ) (n : ℕ) (e : number_by (holding_checks s t lent) ≡ 0) where
    pub packet_refused : (holding_step s t lent (some p)).answer ≡ refuses n → read_by s.receiver p ≡ refused n
    packet_refused a = read_refused p n (read_by s.receiver p) (sym (ap (λ (x : HoldingStep). x.answer) (passed (some p) e)) ∙ a)

    pub refused_packet : read_by s.receiver p ≡ refused n → (holding_step s t lent (some p)).answer ≡ refuses n
    refused_packet a = ap (λ (x : HoldingStep). x.answer) (passed (some p) e ∙ ap (arrives_read s t p (lent_back s lent)) a)

  -- a refused call leaves the receiver as it came in
  abbrev Stays : HoldingStep → Type 0
  Stays x = was_refused x.answer ≡ true → x.receiver ≡ s

  accepts_stays : (x : HoldingStep) → Accepts x → Stays x
  accepts_stays x a e = let z : true ≡ false = sym e ∙ a in absurd (let w : ◌≡◌ {A = ℕ} 0 1 = cc in omega arith)

  called_stays : (p : Option (List ℕ)) → Stays (called s t lent p)
  called_stays none = accepts_stays (waited s.receiver t (lent_back s lent)) (waited_accepts s.receiver t (lent_back s lent))
  called_stays (some p) = go (read_by s.receiver p)
    where
      go : (x : Read) → Stays (arrives_read s t p (lent_back s lent) x)
      go (refused n) = λ e. refl
      go (holds c) = accepts_stays (arrives s.receiver t (record { arrival = t; bytes = p; content = c }) (lent_back s lent)) (arrives_accepts s.receiver t _ (lent_back s lent))

  pub refused_stays : (p : Option (List ℕ)) → Stays (holding_step s t lent p)
  refused_stays p = go (number_by (holding_checks s t lent)) refl
    where
      go : (n : ℕ) → number_by (holding_checks s t lent) ≡ n → Stays (holding_step s t lent p)
      go zero e = subst Stays (sym (passed p e)) (called_stays p)
      go (suc n) e = subst Stays (sym (refused_first p n e)) (λ _. refl)

pub refused_adds : (s : HoldingReceiver) (c : Call) (a : HoldingAnswer) → was_refused a ≡ true → entries_of s c a ≡ []
refused_adds s c (refuses n) e = refl
refused_adds s c (waits z keep) e = refl
refused_adds s c (is_late z keep) e = refl
refused_adds s c (is_jump z keep) e = refl
refused_adds s c (is_break g) e = absurd (let z : ◌≡◌ {A = ℕ} 0 1 = cc in omega arith)
refused_adds s c (gives of keep again g) e = absurd (let z : ◌≡◌ {A = ℕ} 0 1 = cc in omega arith)
