-- Receivers that judge numbers wrongly, each with the clause of `Courses` that it fails, by computing one case. Each is our line with
-- another step.
use Prim.Native.Nat.{ℕ, ◌≤◌}
use mathlib.Core.Path.{◌≡◌, refl, ap}
use mathlib.Core.List.{List, [], ◌∷◌}
use mathlib.Core.Bool.{Bool, true, false, cond}
use native.Mathlib.Omega.{arith}
use lib.Dec.{ltb}
use lib.IntN.{negsuc}
use lib.ListN.{length}
use Rattle.base.specs.Flags.{bit}
use Rattle.packet_spec.specs.Redundancy.{headers}
use Rattle.packet_spec.specs.Reading.{Content, Read, holds, refused, reading}
use Rattle.delivery.specs.Record.{Entry}
use Rattle.delivery.specs.Course.{Course, forward, late, jump, break, distance, course_of, is_kept}
use Rattle.receiver_spec.specs.State.{Receiver, kept_by, keeping, read_by}
use Rattle.receiver_spec.specs.Answers.{Step, refuses, is_late}
use Rattle.receiver_spec.specs.Kinds.{was_late}
use Rattle.receiver_spec.specs.Step.{first_step, step_by, step_of}
use Rattle.receiver_spec.specs.Record.{entries_of}
use Rattle.receiver_spec.proofs.CourseTests.{newest, packet}
use Rattle.demands.specs.Courses.{HasCourse, Courses}
use Rattle.demands.proofs.ImpostorReceivers.{with_step}

-- the step with another judgement of distance and number
abbrev judged_read : (ℕ → Bool → Course) → Receiver → List ℕ → Read → Step
judged_read judge r p (refused n) = record { receiver = r; answer = refuses n }
judged_read judge r p (holds c) =
    let d = distance c.sequence r.expected in
    cond r.has_source (step_by (judge d (is_kept (kept_by r) c.sequence)) r p c d) (first_step r p c)

abbrev judging : (ℕ → Bool → Course) → Receiver → List ℕ → Step
judging judge r p = judged_read judge r p (read_by r p)

-- what is read of `packet n`
abbrev content_of : ℕ → Content
content_of n = record { marker = false; sequence = n; timestamp = 0; source = 7; older = []; primary = 0x41 ∷ [] }

-- 01's half circle, before it was corrected: 32,773 behind 5 writes 32,767 marks
abbrev half_circle : Receiver → List ℕ → Step
half_circle = judging (λ d kept. cond (ltb d 32768) forward late)

pub half_circle_fails : Courses (with_step half_circle) → ⊥
unfolding reading headers
half_circle_fails c = let z : 32767 ≤ 2998 = c.few_marks (newest 5) (packet 32773) in omega arith

-- trusts every jump at once: one stray packet is recorded
abbrev trusting : Receiver → List ℕ → Step
trusting = judging (λ d kept. course_of d true)

pub trusting_fails : Courses (with_step trusting) → ⊥
unfolding reading headers
trusting_fails c =
    let m : HasCourse (newest 5) (packet 10000) jump = record { content = content_of 10000; read = refl; sourced = refl; course_is = refl } in
    let z : ◌≡◌ {A = ℕ} 1 0 = ap (λ (l : List Entry). length l) (c.jump_keeps (newest 5) (packet 10000) m).0 in
    omega arith

-- trusts none: a sender that began anew is never heard again
abbrev stubborn : Receiver → List ℕ → Step
stubborn = judging (λ d kept. course_of d false)

pub stubborn_fails : Courses (with_step stubborn) → ⊥
unfolding reading headers
stubborn_fails c =
    let r = keeping (newest 5) 10000 in
    let m : HasCourse r (packet 10000) break = record { content = content_of 10000; read = refl; sourced = refl; course_is = refl } in
    let z : ◌≡◌ {A = ℕ} 6 10001 = ap (λ (x : Receiver). x.expected) (c.break_afresh r (packet 10000) m).1 in
    omega arith

-- a late packet clears the number kept: a sender that began anew is not heard while late packets come
abbrev forgetful : Receiver → List ℕ → Step
forgetful r p = record { receiver = cond (was_late (step_of r p).answer) (newest 5) (step_of r p).receiver; answer = (step_of r p).answer }

pub forgetful_fails : Courses (with_step forgetful) → ⊥
unfolding step_of reading headers
forgetful_fails c =
    let r = keeping (newest 5) 10001 in
    let m : HasCourse r (packet 5) late = record { content = content_of 5; read = refl; sourced = refl; course_is = refl } in
    let z : ◌≡◌ {A = ℕ} 0 10001 = ap (λ (x : Receiver). x.kept) (c.late_stays r (packet 5) m).1 in
    omega arith

-- no forward packet clears it: two stray packets are a break, however much text lies between them
abbrev hoarding : Receiver → List ℕ → Step
hoarding r p = record { receiver = cond r.has_kept (keeping (step_of r p).receiver r.kept) (step_of r p).receiver; answer = (step_of r p).answer }

pub hoarding_fails : Courses (with_step hoarding) → ⊥
unfolding step_of reading headers
hoarding_fails c =
    let r = keeping (newest 5) 10001 in
    let m : HasCourse r (packet 6) forward = record { content = content_of 6; read = refl; sourced = refl; course_is = refl } in
    let z : ◌≡◌ {A = ℕ} 1 0 = ap bit (c.forward_clears r (packet 6) m).1 in
    omega arith

-- a stray packet costs the next one its text
abbrev startled : Receiver → List ℕ → Step
startled r p = cond r.has_kept (record { receiver = (step_of r p).receiver; answer = is_late (negsuc 0) }) (step_of r p)

pub startled_fails : Courses (with_step startled) → ⊥
unfolding step_of reading headers
startled_fails c =
    let r = keeping (newest 5) 10001 in
    let m : HasCourse r (packet 6) forward = record { content = content_of 6; read = refl; sourced = refl; course_is = refl } in
    let z : ◌≡◌ {A = ℕ} 0 1 = ap (λ (s : Step). length (entries_of r (packet 6) s.answer)) (c.forward_clears r (packet 6) m).0 in
    omega arith
