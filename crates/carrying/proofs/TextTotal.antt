-- The length of the texts that a run of blocks has.
use Prim.Native.Nat.{ℕ, zero, suc, ◌+◌, ◌<◌, min}
use mathlib.Core.Path.{◌≡◌}
use mathlib.Core.List.{List, [], ◌∷◌}
use native.Mathlib.Nat.{not-suc-le-zero, le_of_suc-le-suc}
use native.Mathlib.Omega.{arith}
use lib.ListN.{length, take, get_or}
use Rattle.sender_spec.specs.Limits.{room_size}
use Rattle.carrying.specs.Internal.Young.{text_total}

-- one text more
pub total_more : (lens : List ℕ) (i : ℕ) → i < length lens → text_total (take (suc i) lens) ≡ text_total (take i lens) + min (get_or lens i 0) room_size
total_more [] i h = absurd (not-suc-le-zero h)
total_more (n ∷ lens) zero h = omega arith
total_more (n ∷ lens) (suc i) h = omega (arith, total_more lens i (le_of_suc-le-suc h))
