-- The text that a step hands out is the blocks that it gives, joined.
use Prim.Native.Nat.{ℕ, suc, ◌-◌, ◌≤◌}
use mathlib.Core.Path.{◌≡◌, ◌∙◌, refl, ap, sym}
use mathlib.Core.List.{List}
use mathlib.Core.Bool.{Bool, true, false, cond}
use native.Mathlib.Omega.{arith}
use lib.IntN.{ℤ, pos}
use lib.ListN.{length}
use Rattle.receiver_spec.specs.State.{Receiver, kept_by, read_by, source_expected}
use Rattle.packet_spec.specs.Limits.{level}
use Rattle.packet_spec.specs.Header.{payload_end}
use Rattle.packet_spec.specs.Redundancy.{joined}
use Rattle.packet_spec.specs.Reading.{Content, Read, holds, refused, blocks}
use Rattle.delivery.specs.Course.{Course, forward, late, jump, break, course_at, distance, wanted, loss}
use Rattle.delivery.specs.Record.{last_of}
use Rattle.receiver_spec.specs.Step.{given_from, step_read, first_step, step_by, step_of, text_given}
use Rattle.receiver_spec.specs.Answers.{gives}
use Rattle.receiver_spec.specs.Distance.{signed}
use Rattle.receiver_spec.specs.Record.{blocks_in, blocks_given}
use Rattle.base.proofs.PartOf.{part_slice}
use Rattle.packet_spec.proofs.BlocksLie.{lies, rest_fills}

module _ (r : Receiver) (p : List ℕ) (c : Content) (e : read_by r p ≡ holds c) where
  -- the part of the packet that is handed out is the blocks given, joined
  pub text_of_given : (marks : ℕ) (z : ℤ) (w : ℕ) → w ≤ length c.older
      → text_given p (gives (given_from p c marks z w)) ≡ joined (blocks_given r p (gives (given_from p c marks z w)))
  text_of_given marks z w h =
      let l = lies level (source_expected r) r.t140 r.red p c e in
      part_slice (payload_end p - length (joined (last_of (suc w) (blocks c)))) (payload_end p) p (omega arith) l.inside
      ∙ rest_fills p c l (length (blocks c) - suc w)
      ∙ sym (ap (λ (x : Read). joined (last_of (suc w) (blocks_in x))) e)

-- whatever the receiver and the packet: the text handed out is the blocks given, joined
pub text_is_blocks : (r : Receiver) (p : List ℕ) → text_given p (step_of r p).answer ≡ joined (blocks_given r p (step_of r p).answer)
unfolding step_of
text_is_blocks r p = go (read_by r p) refl
  where
    go : (x : Read) → read_by r p ≡ x
        → text_given p (step_read r p x).answer ≡ joined (blocks_given r p (step_read r p x).answer)
    go (refused n) e = refl
    go (holds c) e = by r.has_source (course_at r.expected (kept_by r) c.sequence)
      where
        d : ℕ
        d = distance c.sequence r.expected

        n : ℕ
        n = length c.older

        by : (h : Bool) (v : Course)
            → text_given p (cond h (step_by v r p c d) (first_step r p c)).answer ≡ joined (blocks_given r p (cond h (step_by v r p c d) (first_step r p c)).answer)
        by true forward = text_of_given r p c e (loss d n) (signed d) (wanted d n) (omega arith)
        by true late = refl
        by true jump = refl
        by true break = text_of_given r p c e 0 (pos 0) n (omega arith)
        by false v = text_of_given r p c e 0 (pos 0) n (omega arith)
