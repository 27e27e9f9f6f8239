-- Bytes joined bit by bit: below 80 hex where each of them is.
use Prim.Native.Nat.{ℕ, ◌<◌}
use mathlib.Core.List.{List, [], ◌∷◌}
use native.Mathlib.Omega.{arith}
use Rattle.std.proofs.Common.{bit_or}
use Rattle.std.proofs.lemmas.Nat.{le_or_l, le_or_r}
use Rattle.std.specs.List.{fold}
use Rattle.base.specs.Every.{Every}
use Rattle.text_spec.proofs.Ascii.{Ascii}

joined_most : (s : List ℕ) (a : ℕ) → fold bit_or a s < 0x80 → Ascii a × Every Ascii s
joined_most [] a h = (h, tt)
joined_most (b ∷ s) a h =
    let (e, f) = joined_most s (bit_or a b) h in
    (omega (arith, le_or_l a b), (omega (arith, le_or_r a b), f))

pub joined_ascii : (s : List ℕ) (a : ℕ) → fold bit_or a s < 0x80 → Every Ascii s
joined_ascii s a h = (joined_most s a h).1
