-- A part of the packet's bytes by two places, by plain facts.
use Prim.Native.Nat.{ℕ, ◌-◌, ◌<◌, ◌≤◌}
use mathlib.Core.Path.{◌≡◌, ◌∙◌, sym}
use mathlib.Core.List.{List, []}
use lib.ListN.{length, take, drop}
use lib.Seq.{slice}
use borrow.Author.Tests.{lt-ltb, le-ltb}
use Rattle.base.specs.Arrays.{part}
use Rattle.base.proofs.Slices.{mid_slice}

module _ (from to : ℕ) (p : List ℕ) where
  pub part_crossed : to < from → part from to p ≡ []
  part_crossed h = rw (lt-ltb to from h)

  pub part_past : from ≤ to → length p < to → part from to p ≡ []
  part_past h k = rw (le-ltb to from h, lt-ltb (length p) to k)

  pub part_slice : from ≤ to → to ≤ length p → part from to p ≡ slice from to p
  part_slice h k = rw (le-ltb to from h, le-ltb (length p) to k)

  pub part_mid : from ≤ to → to ≤ length p → part from to p ≡ take (to - from) (drop from p)
  part_mid h k = part_slice h k ∙ sym (mid_slice from to p h)
