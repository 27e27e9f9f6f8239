-- A break leaves what a fresh receiver with the same payload types would, and gives the same.
use Prim.Native.Nat.{ℕ}
use mathlib.Core.Path.{◌≡◌, ◌∙◌, refl, ap}
use mathlib.Core.List.{List}
use mathlib.Core.Bool.{Bool, true, false, cond}
use native.Mathlib.Omega.{arith}
use Rattle.packet_spec.specs.Reading.{Read, holds, refused}
use Rattle.delivery.specs.Course.{Course, forward, late, jump, break, course_at, distance}
use Rattle.receiver_spec.specs.State.{Receiver, fresh_receiver, kept_by, read_by}
use Rattle.receiver_spec.specs.Answers.{Given, gives, is_break}
use Rattle.receiver_spec.specs.Step.{moved_to, all_of, step_read, first_step, step_by, step_of}
use Rattle.receiver_spec.proofs.AcceptedBlocks.{read_by_any}

module _ (r : Receiver) (p : List ℕ) (g : Given) where
  abbrev fresh : Receiver
  fresh = fresh_receiver r.t140 r.red

  pub break_afresh : (step_of r p).answer ≡ is_break g → step_of fresh p ≡ record { receiver = (step_of r p).receiver; answer = gives g }
  unfolding step_of
  break_afresh = go (read_by r p) refl
    where
      go : (x : Read) → read_by r p ≡ x → (step_read r p x).answer ≡ is_break g
          → step_read fresh p (read_by fresh p) ≡ record { receiver = (step_read r p x).receiver; answer = gives g }
      go (refused n) e b = absurd (let z : ◌≡◌ {A = ℕ} 0 1 = cc in omega arith)
      go (holds c) e b = ap (step_read fresh p) (read_by_any r p c e) ∙ by r.has_source (course_at r.expected (kept_by r) c.sequence) b
        where
          d : ℕ
          d = distance c.sequence r.expected

          by : (h : Bool) (v : Course) → (cond h (step_by v r p c d) (first_step r p c)).answer ≡ is_break g
              → first_step fresh p c ≡ record { receiver = (cond h (step_by v r p c d) (first_step r p c)).receiver; answer = gives g }
          by true break b = let same : all_of p c ≡ g = cc in ap (λ (x : Given). record { receiver = moved_to r c.source c.sequence; answer = gives x }) same
          by true forward b = absurd (let z : ◌≡◌ {A = ℕ} 0 1 = cc in omega arith)
          by true late b = absurd (let z : ◌≡◌ {A = ℕ} 0 1 = cc in omega arith)
          by true jump b = absurd (let z : ◌≡◌ {A = ℕ} 0 1 = cc in omega arith)
          by false v b = absurd (let z : ◌≡◌ {A = ℕ} 0 1 = cc in omega arith)
