-- The record after a call holds the receiver of the definition's step.
use Prim.Native.Nat.{ℕ}
use mathlib.Core.Path.{◌≡◌, refl}
use mathlib.Core.List.{List}
use mathlib.Core.Bool.{Bool, true, false, cond}
use Rattle.packet_spec.specs.Limits.{level}
use Rattle.packet_spec.specs.Reading.{Read, holds, refused, reading}
use Rattle.delivery.specs.Numbers.{next}
use Rattle.delivery.specs.Course.{Course, forward, late, jump, break, course_at, distance}
use Rattle.receiver_spec.specs.State.{Receiver, keeping, kept_by, source_expected}
use Rattle.receiver_spec.specs.Step.{step_read, first_step, step_by, step_of}
use Rattle.boundary.specs.declared.ReceiverRecord.{ReceiverRecord}
use Rattle.boundary.specs.Receiving.{held_in, lent_record, receiver_behind}
use Rattle.base.specs.Flags.{bit, is_set}

flag_bit : (b : Bool) → is_set (bit b) ≡ b
flag_bit true = refl
flag_bit false = refl

pub held_record : (r : Receiver) → held_in (lent_record r) ≡ r
held_record r = λ i. record {
  t140 = r.t140;
  red = r.red;
  has_source = flag_bit r.has_source i;
  source = r.source;
  expected = r.expected;
  has_kept = flag_bit r.has_kept i;
  kept = r.kept;
}

pub held_step : (before : ReceiverRecord) (p : List ℕ) → held_in (receiver_behind (step_of (held_in before) p) before) ≡ (step_of (held_in before) p).receiver
unfolding step_of
held_step before p = go (reading level (source_expected r) r.t140 r.red p)
  where
    r : Receiver
    r = held_in before

    go : (x : Read) → held_in (receiver_behind (step_read (held_in before) p x) before) ≡ (step_read (held_in before) p x).receiver
    go (refused n) = refl
    go (holds c) = by r.has_source (course_at r.expected (kept_by r) c.sequence)
      where
        d : ℕ
        d = distance c.sequence r.expected

        by : (h : Bool) (v : Course)
            → held_in (receiver_behind (cond h (step_by v (held_in before) p c d) (first_step (held_in before) p c)) before)
            ≡ (cond h (step_by v (held_in before) p c d) (first_step (held_in before) p c)).receiver
        by true forward = refl
        by true late = refl
        by true jump = held_record (keeping (held_in before) (next c.sequence))
        by true break = refl
        by false v = refl
