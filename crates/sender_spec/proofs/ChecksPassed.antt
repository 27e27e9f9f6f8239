-- What is known where an opening is accepted, and where a clock call meets none of the clock's checks.
use Prim.Native.Nat.{ℕ, ◌≤◌}
use mathlib.Core.Path.{◌≡◌, refl}
use mathlib.Core.Bool.{Bool, true, false, cond, not}
use native.Mathlib.Omega.{arith}
use lib.Dec.{ltb, eqb}
use borrow.Author.Tests.{ltb-false, eqb-true, eqb-false}
use Rattle.base.specs.Checks.{checked}
use Rattle.sender_spec.specs.State.{Settings, Sender, fresh_sender}
use Rattle.sender_spec.specs.Settings.{settings_number}
use Rattle.sender_spec.specs.Answers.{CallResult}
use Rattle.sender_spec.specs.Calls.{open_sender, sender_refused}
use Rattle.sender_spec.specs.Clocking.{clock_checks}

pub open_passed : (x : Settings) → (open_sender x).number ≡ 0 → (settings_number x ≡ 0) × ((open_sender x).sender ≡ fresh_sender x)
unfolding open_sender
open_passed x = go (settings_number x) (eqb (settings_number x) 0) refl
  where
    by : ℕ → Bool → CallResult
    by n b = cond (not b) (sender_refused n) (record { number = 0; sender = fresh_sender x })

    go : (n : ℕ) (b : Bool) → eqb n 0 ≡ b → (by n b).number ≡ 0 → (n ≡ 0) × ((by n b).sender ≡ fresh_sender x)
    go n true q e = (eqb-true n 0 q, refl)
    go n false q e = absurd (eqb-false n 0 q e)

pub clock_passed : (s : Sender) (t : ℕ) → checked (λ n. n) (clock_checks s t) 0 ≡ 0 → (settings_number s.settings ≡ 0) × (s.clock ≤ t)
clock_passed s t = go (settings_number s.settings) (eqb (settings_number s.settings) 0) refl (ltb t s.clock) refl
  where
    go : (n : ℕ) (a : Bool) → eqb n 0 ≡ a → (b : Bool) → ltb t s.clock ≡ b → cond (not a) n (cond b 5 0) ≡ 0 → (n ≡ 0) × (s.clock ≤ t)
    go n false q b r e = absurd (eqb-false n 0 q e)
    go n true q true r e = absurd (omega arith)
    go n true q false r e = (eqb-true n 0 q, ltb-false t s.clock r)
