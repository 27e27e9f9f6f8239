-- The text that a call hands out is the blocks that it gives, joined.
use Prim.Native.Nat.{ℕ, zero, suc}
use mathlib.Core.Path.{◌≡◌, refl, sym, subst}
use mathlib.Core.List.{List}
use mathlib.Core.Option.{Option, none, some}
use native.Mathlib.Omega.{arith}
use lib.IntN.{pos}
use lib.ListN.{length}
use Rattle.base.specs.Arrays.{part}
use Rattle.base.specs.Checks.{number_by}
use Rattle.base.proofs.Tests.{by_test}
use Rattle.packet_spec.specs.Redundancy.{joined}
use Rattle.packet_spec.specs.Reading.{Content, Read, holds, refused}
use Rattle.delivery.specs.Course.{Course, forward, late, jump, break, course_at, wanted, loss}
use Rattle.delivery.specs.Record.{last_of}
use Rattle.receiver_spec.specs.Distance.{signed}
use Rattle.receiver_spec.specs.State.{Receiver, kept_by, keeping_none, read_by}
use Rattle.receiver_spec.specs.Step.{given_at, all_of}
use Rattle.receiver_spec.specs.Record.{blocks_in}
use Rattle.receiver_spec.proofs.TextGiven.{text_of_given}
use Rattle.holding_spec.specs.State.{HoldingReceiver, holding_checks}
use Rattle.holding_spec.specs.Answers.{HoldingStep}
use Rattle.holding_spec.specs.Rule.{Arrived, ahead, would_lose, is_due, is_nearer, is_held, waited, by_course, arrives}
use Rattle.holding_spec.specs.Step.{text_handed, arrived_at, lent_back, arrives_read, called, holding_step}
use Rattle.holding_spec.specs.Record.{Call, new_bytes, blocks_given}
use Rattle.holding_spec.proofs.Refusals.{refused_first, passed}

abbrev Told : HoldingReceiver → Call → HoldingStep → Type 0
Told s c x = text_handed c.lent (new_bytes c.packet) x.answer ≡ joined (blocks_given s c x.answer)

-- a packet is what was read of the bytes lent
data ReadOf (r : Receiver) (p : List ℕ) : Option Arrived → Type 0 where
  nothing : ReadOf r p none
  one : (t : ℕ) (c : Content) → read_by r p ≡ holds c → ReadOf r p (some (record { arrival = t; bytes = p; content = c }))

module _ (s : HoldingReceiver) (t : ℕ) (lent : List ℕ) where
  abbrev r : Receiver
  r = s.receiver

  -- the blocks of a packet that goes by its distance, or all of them
  at_distance : (p : List ℕ) (c : Content) (d : ℕ) → read_by r p ≡ holds c → part (given_at p c d).from (given_at p c d).to p ≡ joined (last_of (given_at p c d).given (blocks_in (read_by r p)))
  at_distance p c d e = text_of_given r p c e (loss d (length c.older)) (signed d) (wanted d (length c.older)) (omega arith)

  all : (p : List ℕ) (c : Content) → read_by r p ≡ holds c → part (all_of p c).from (all_of p c).to p ≡ joined (last_of (all_of p c).given (blocks_in (read_by r p)))
  all p c e = text_of_given r p c e 0 (pos 0) (length c.older) (omega arith)

  abbrev waiting : Call
  waiting = record { clock = t; lent = lent; packet = none }

  waited_told : (h : Option Arrived) → ReadOf r lent h → Told s waiting (waited r t h)
  waited_told h nothing = refl
  waited_told h (one a c e) =
      let x : Arrived = record { arrival = a; bytes = lent; content = c } in
      by_test (Told s waiting) (is_due r t x) (λ _. at_distance lent c (ahead r x) e) (λ _. refl)

  lent_read : ReadOf r lent (lent_back s lent)
  lent_read = by_test (ReadOf r lent) s.has_held (λ _. go (read_by r lent) refl) (λ _. nothing)
    where
      go : (x : Read) → read_by r lent ≡ x → ReadOf r lent (arrived_at s.arrival lent x)
      go (refused n) e = nothing
      go (holds c) e = one s.arrival c e

  -- with a packet
  module _ (p : List ℕ) (c : Content) (e : read_by r p ≡ holds c) where
    abbrev arriving : Call
    arriving = record { clock = t; lent = lent; packet = some p }

    abbrev x : Arrived
    x = record { arrival = t; bytes = p; content = c }

    course_told : (v : Course) (h : Option Arrived) → ReadOf r lent h → Told s arriving (by_course v r t x h)
    course_told forward h nothing = by_test (Told s arriving) (would_lose (keeping_none r) x) (λ _. refl) (λ _. at_distance p c (ahead r x) e)
    course_told forward h (one a y q) =
        let held : Arrived = record { arrival = a; bytes = lent; content = y } in
        by_test (Told s arriving) (is_nearer (keeping_none r) x held) (λ _. at_distance p c (ahead r x) e) (λ _. at_distance lent y (ahead r held) q)
    course_told late h b = refl
    course_told jump h b = refl
    course_told break h nothing = all p c e
    course_told break h (one a y q) = at_distance lent y (ahead r (record { arrival = a; bytes = lent; content = y })) q

    arrives_told : (h : Option Arrived) → ReadOf r lent h → Told s arriving (arrives r t x h)
    arrives_told h b =
        by_test (Told s arriving) r.has_source
        (λ _. by_test (Told s arriving) (is_held h x) (λ _. refl) (λ _. course_told (course_at r.expected (kept_by r) c.sequence) h b))
        (λ _. all p c e)

  called_told : (p : Option (List ℕ)) → Told s (record { clock = t; lent = lent; packet = p }) (called s t lent p)
  called_told none = waited_told (lent_back s lent) lent_read
  called_told (some p) = go (read_by r p) refl
    where
      go : (y : Read) → read_by r p ≡ y → Told s (record { clock = t; lent = lent; packet = some p }) (arrives_read s t p (lent_back s lent) y)
      go (refused n) e = refl
      go (holds c) e = arrives_told p c e (lent_back s lent) lent_read

  pub text_is_blocks : (p : Option (List ℕ)) → Told s (record { clock = t; lent = lent; packet = p }) (holding_step s t lent p)
  text_is_blocks p = go (number_by (holding_checks s t lent)) refl
    where
      go : (n : ℕ) → number_by (holding_checks s t lent) ≡ n → Told s (record { clock = t; lent = lent; packet = p }) (holding_step s t lent p)
      go zero e = subst (Told s (record { clock = t; lent = lent; packet = p })) (sym (passed s t lent p e)) (called_told p)
      go (suc n) e = subst (Told s (record { clock = t; lent = lent; packet = p })) (sym (refused_first s t lent p n e)) refl
