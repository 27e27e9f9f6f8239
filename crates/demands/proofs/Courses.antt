-- Our line keeps the courses.
use Prim.Native.Nat.{ℕ, ◌≤◌}
use mathlib.Core.Path.{◌≡◌, ◌∙◌, refl, ap, ap₂, sym}
use mathlib.Core.List.{List}
use mathlib.Core.Bool.{Bool, true, false, cond}
use native.Mathlib.Omega.{arith}
use Rattle.packet_spec.specs.Reading.{Read, holds, refused}
use Rattle.delivery.specs.Record.{entries, last_of}
use Rattle.delivery.specs.Course.{Course, forward, late, jump, break, distance, is_kept, course_at}
use Rattle.delivery.proofs.WrappedDistance.{course_forward, forward_near}
use Rattle.receiver_spec.specs.State.{Receiver, fresh_receiver, kept_by, keeping_none, read_by}
use Rattle.receiver_spec.specs.Answers.{Step, gives}
use Rattle.receiver_spec.specs.Step.{all_of, step_read, first_step, step_by, step_of}
use Rattle.receiver_spec.specs.Record.{blocks_in, loss_of, entries_of}
use Rattle.receiver_spec.proofs.AcceptedBlocks.{read_by_any}
use Rattle.receiver_spec.proofs.StartsAfresh as afresh
use Rattle.demands.specs.Ours.{ours}
use Rattle.demands.specs.Courses.{HasCourse, Courses}

-- the step, by the course
pub step_by_lem : (r : Receiver) (p : List ℕ) (v : Course) (m : HasCourse r p v) → step_of r p ≡ step_by v r p m.content (distance m.content.sequence r.expected)
unfolding step_of
step_by_lem r p v m =
    let c = m.content in
    ap (step_read r p) m.read
    ∙ ap₂ {C = Step} (λ (h : Bool) (w : Course). cond h (step_by w r p c (distance c.sequence r.expected)) (first_step r p c)) m.sourced m.course_is

module _ (r : Receiver) (p : List ℕ) where
  few : loss_of (step_of r p).answer ≤ 2998
  unfolding step_of
  few = go (read_by r p)
    where
      go : (x : Read) → loss_of (step_read r p x).answer ≤ 2998
      go (refused n) = omega arith
      go (holds c) = by r.has_source (course_at r.expected (kept_by r) c.sequence) refl
        where
          d : ℕ
          d = distance c.sequence r.expected

          by : (h : Bool) (v : Course) → course_at r.expected (kept_by r) c.sequence ≡ v → loss_of (cond h (step_by v r p c d) (first_step r p c)).answer ≤ 2998
          by true forward e = omega (arith, forward_near d (is_kept (kept_by r) c.sequence) (omega arith) e)
          by true late e = omega arith
          by true jump e = omega arith
          by true break e = omega arith
          by false v e = omega arith

  -- what is forward is so whatever number is kept
  clears : HasCourse r p forward → (step_of r p ≡ step_of (keeping_none r) p) × ((step_of r p).receiver.has_kept ≡ false)
  clears m =
      let c = m.content in
      let d : ℕ = distance c.sequence r.expected in
      let near = forward_near d (is_kept (kept_by r) c.sequence) (omega arith) m.course_is in
      let none : HasCourse (keeping_none r) p forward =
      record { content = c; read = m.read; sourced = m.sourced; course_is = course_forward d false near } in
      (step_by_lem r p forward m ∙ sym (step_by_lem (keeping_none r) p forward none), ap (λ (s : Step). s.receiver.has_kept) (step_by_lem r p forward m))

  breaks : HasCourse r p break
      → (entries_of r p (step_of r p).answer ≡ entries_of (fresh_receiver r.t140 r.red) p (step_of (fresh_receiver r.t140 r.red) p).answer)
      × ((step_of r p).receiver ≡ (step_of (fresh_receiver r.t140 r.red) p).receiver)
  breaks m =
      let c = m.content in
      let fresh = fresh_receiver r.t140 r.red in
      let step = step_by_lem r p break m in
      let first : step_of fresh p ≡ record { receiver = (step_of r p).receiver; answer = gives (all_of p c) } =
      afresh.break_afresh r p (all_of p c) (ap (λ (s : Step). s.answer) step) in
      let same : read_by r p ≡ read_by fresh p = m.read ∙ sym (read_by_any r p c m.read) in (
        ap (λ (s : Step). entries_of r p s.answer) step
            ∙ ap (λ (x : Read). entries 0 (last_of (all_of p c).given (blocks_in x))) same
            ∙ sym (ap (λ (s : Step). entries_of fresh p s.answer) first),
        sym (ap (λ (s : Step). s.receiver) first),
      )

pub courses_claim : Courses ours
courses_claim = record {
  few_marks = few;
  forward_clears = clears;
  late_stays = λ r p m. (
    ap (λ (s : Step). entries_of r p s.answer) (step_by_lem r p late m),
    ap (λ (s : Step). s.receiver) (step_by_lem r p late m),
  );
  jump_keeps = λ r p m. (
    ap (λ (s : Step). entries_of r p s.answer) (step_by_lem r p jump m),
    ap (λ (s : Step). s.receiver) (step_by_lem r p jump m),
  );
  break_afresh = breaks;
}
