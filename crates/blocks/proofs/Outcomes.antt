-- What the judgement of the blocks' text leads to: 01's check.
use Prim.Native.Nat.{ℕ, ◌≤◌}
use mathlib.Core.Path.{◌≡◌, refl}
use mathlib.Core.List.{List}
use mathlib.Core.Bool.{Bool, true, false, cond, not}
use lib.ListN.{length}
use borrow.Author.Tests.{le-ltb}
use Rattle.std.specs.Prelude.{Result, Ok, Err}
use Rattle.packet.specs.declared.Refusal.{Refusal}
use Rattle.packet.specs.declared.Refusal.TheVariants.{BlockText}
use Rattle.base.specs.Checks.{checked}
use Rattle.packet_spec.specs.Redundancy.{Head, total, ages_fall, are_text}
use Rattle.packet_spec.specs.Reading.{block_checks}
use Rattle.packet.specs.Refusal.{number}

module _ {A : Type 0} (refuse : ℕ → A) (x : A) where
  -- what an outcome leads to: its refusal, or what is accepted
  abbrev pub led : Result Unit Refusal → A
  led (Ok _) = x
  led (Err r) = refuse (number r)

  either : (text : Bool) → cond (not text) (refuse 21) x ≡ led (cond text (Ok tt) (Err BlockText))
  either true = refl
  either false = refl

  pub text_leads : (hs : List Head) (s : List ℕ) → total hs ≤ length s → ages_fall hs ≡ true
      → checked refuse (block_checks hs s) x ≡ led (cond (are_text hs s) (Ok tt) (Err BlockText))
  text_leads hs s fit ages = rw (le-ltb (length s) (total hs) fit, ages) (either (are_text hs s))
