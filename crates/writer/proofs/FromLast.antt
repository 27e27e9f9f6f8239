-- The tags from the last to the first.
use Prim.Native.Nat.{ℕ, ◌-◌, ◌<◌}
use mathlib.Core.Path.{◌≡◌, ◌∙◌, ap}
use mathlib.Core.List.{List, reverse}
use native.Mathlib.Omega.{arith}
use lib.ListN.{length, get_or, length-reverse}
use Rattle.std.proofs.lemmas.List.{get_or-reverse, get_or_default}
use Rattle.packet_spec.specs.Limits.{level}

pub from_last : (tags : List ℕ) → length tags ≡ level → (j v : ℕ) → j < length (reverse tags) → v ≡ get_or (reverse tags) j v → (j < level) × (v ≡ get_or tags (level - j - 1) 0)
from_last tags l j v h e =
    let m : j < length tags = omega (arith, h, length-reverse tags) in
    let k : length tags - 1 - j ≡ level - j - 1 = omega (arith, l, m) in
    (omega (arith, m, l), e ∙ get_or-reverse tags j v m ∙ get_or_default tags (length tags - 1 - j) v 0 (omega (arith, m)) ∙ ap (λ (i : ℕ). get_or tags i 0) k)
