-- The clock call's answer as a signed number of 64 bits.
use Prim.Native.Nat.{ℕ, zero, suc, ◌*◌, ◌^◌, ◌<◌}
use mathlib.Core.Path.{◌≡◌, refl, ◌∙◌, ap, sym, subst}
use mathlib.Core.List.{List}
use native.Mathlib.Omega.{arith}
use borrow.Author.Tests.{lt-ltb}
use lib.IntN.{ℤ, pos, neg_ℤ, ◌-ℤ◌, +ℤ_idl}
use lib.ListN.{length}
use lib.Signed.{mag}
use mir.Syntax.{w64}
use mir.Val.{to_z, SFits}
use mir.Facts.{to_z_pos}
use Rattle.sender_spec.specs.State as State
use Rattle.sender_spec.specs.Answers.{ClockAnswer, ClockResult}
use Rattle.sender_spec.specs.Calls.{clock_of}
use Rattle.sender_spec.proofs.Shapes as Shapes
use Rattle.sender_spec.proofs.Shapes.{Clock, clock_shape}
use Rattle.sender.specs.declared.Sender.{Sender}
use Rattle.sender.specs.State.{state_of}
use Rattle.writer.specs.Draft.{Answered, clock_answer}
use Rattle.sender.specs.Clocking.{Clocks}
use Rattle.sender_boundary.specs.Calls.{clock_code, signed_code, code_of}

module _ (n : ℕ) (h : n < 256) where
  pub negated : pos 0 -ℤ to_z w64 n ≡ neg_ℤ (pos n)
  negated = let l : n < 2 ^ 63 = omega arith in ap (λ (z : ℤ). pos 0 -ℤ z) (to_z_pos w64 {n = n} l) ∙ +ℤ_idl (neg_ℤ (pos n))

  pub negated_fits : SFits w64 (pos 0 -ℤ to_z w64 n)
  negated_fits = rw negated (record { sfits = small n h })
    where
      small : (m : ℕ) → m < 256 → mag (neg_ℤ (pos m)) < 2 ^ 63
      small zero l = omega arith
      small (suc m) l = omega arith

pub signed_small : (n : ℕ) → n < 2 ^ 63 → signed_code n ≡ pos n
signed_small n h = rw (lt-ltb n (2 ^ 63) h)

-- a packet that is sent has no more bytes than the space, which a signed number counts
sent_fits : (s : State.Sender) (t : ℕ) (p : List ℕ) → length p * 1 < 2 ^ 63 → code_of (clock_of s t p).answer ≡ clock_code (clock_of s t p).answer
sent_fits s t p h = go (clock_of s t p) (clock_shape s t p)
  where
    go : (r : ClockResult) → Clock s t p r → code_of r.answer ≡ clock_code r.answer
    go r (Shapes.refused n) = refl
    go r (Shapes.quiet k e) = refl
    go r (Shapes.sent k l e m) = signed_small _ (omega arith)

pub code_exact : (s : Sender) (texts log : List ℕ) (t : ℕ) (p : List ℕ) (r : Answered) (s' : Sender) (texts' log' p' : List ℕ) → Clocks s texts log t p r s' texts' log' p' → length p * 1 < 2 ^ 63
    → code_of (clock_answer r) ≡ clock_code (clock_answer r)
code_exact s texts log t p r s' texts' log' p' c h =
    subst (λ (x : ClockAnswer). code_of x ≡ clock_code x) (sym (ap (λ (x : ClockResult). x.answer) c.result)) (sent_fits (state_of s texts log) t p h)
