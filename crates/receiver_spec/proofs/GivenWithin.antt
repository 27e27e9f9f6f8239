-- What a packet gives lies within it.
use Prim.Native.Nat.{ℕ, ◌≤◌}
use mathlib.Core.Path.{◌≡◌, refl}
use mathlib.Core.List.{List}
use mathlib.Core.Bool.{Bool, true, false, cond}
use native.Mathlib.Omega.{arith}
use lib.IntN.{ℤ, pos}
use lib.ListN.{length}
use Rattle.packet_spec.specs.Limits.{level}
use Rattle.packet_spec.specs.Reading.{Content, Read, holds, refused}
use Rattle.packet_spec.proofs.BlocksLie.{lies}
use Rattle.delivery.specs.Course.{Course, forward, late, jump, break, course_at, distance, wanted, loss}
use Rattle.receiver_spec.specs.State.{Receiver, kept_by, read_by, source_expected}
use Rattle.receiver_spec.specs.Distance.{signed}
use Rattle.receiver_spec.specs.Step.{given_from, step_read, first_step, step_by, step_of}
use Rattle.receiver_spec.specs.Answers.{gives, is_break, is_jump, is_late, refuses, StepAnswer}

abbrev pub Within : List ℕ → StepAnswer → Type 0
Within p (refuses n) = Unit {0}
Within p (is_late z) = Unit {0}
Within p (is_jump z) = Unit {0}
Within p (is_break g) = (g.from ≤ g.to) × (g.to ≤ length p)
Within p (gives g) = (g.from ≤ g.to) × (g.to ≤ length p)

from_lies : (r : Receiver) (p : List ℕ) (c : Content) → read_by r p ≡ holds c
    → (marks : ℕ) (z : ℤ) (w : ℕ) → Within p (gives (given_from p c marks z w))
from_lies r p c e marks z w = let l = lies level (source_expected r) r.t140 r.red p c e in (omega arith, l.inside)

pub given_lies : (r : Receiver) (p : List ℕ) → Within p (step_of r p).answer
unfolding step_of
given_lies r p = go (read_by r p) refl
  where
    go : (x : Read) → read_by r p ≡ x → Within p (step_read r p x).answer
    go (refused n) e = tt
    go (holds c) e = by r.has_source (course_at r.expected (kept_by r) c.sequence)
      where
        d : ℕ
        d = distance c.sequence r.expected

        n : ℕ
        n = length c.older

        by : (h : Bool) (v : Course) → Within p (cond h (step_by v r p c d) (first_step r p c)).answer
        by true forward = from_lies r p c e (loss d n) (signed d) (wanted d n)
        by true late = tt
        by true jump = tt
        by true break = from_lies r p c e 0 (pos 0) n
        by false v = from_lies r p c e 0 (pos 0) n
