-- The row of the table that a letter's first byte belongs to.
use Prim.Native.Nat.{ℕ, ◌<◌, ◌≤◌}
use mathlib.Core.Path.{◌≡◌, refl}
use mathlib.Core.List.{[], ◌∷◌}
use mathlib.Core.Option.{none, some}
use mathlib.Core.Bool.{Bool, true, false}
use native.Mathlib.Omega.{arith}
use lib.Dec.{leb}
use borrow.Author.Tests.{lt-leb, le-leb, leb-true, leb-false}
use Rattle.text_spec.specs.Utf8.{◌to◌, within, tail, rows, begun}
use Rattle.base.proofs.Tests.{and_false}

module _ (b : ℕ) where
  pub inside : (lo hi : ℕ) → lo ≤ b → b ≤ hi → within (lo to hi) b ≡ true
  inside lo hi h k = rw (le-leb lo b h, le-leb b hi k)

  pub below : (lo hi : ℕ) → b < lo → within (lo to hi) b ≡ false
  below lo hi h = rw (lt-leb lo b h)

  pub above : (lo hi : ℕ) → hi < b → within (lo to hi) b ≡ false
  above lo hi h = rw (lt-leb b hi h) (and_false (leb lo b))

  pub ascii : b ≤ 0x7F → begun rows b ≡ some []
  ascii h = rw (inside 0 0x7F (omega arith) h)

  pub lone_tail : 0x80 ≤ b → b ≤ 0xC1 → begun rows b ≡ none
  lone_tail h k =
      rw (
        above 0 0x7F (omega arith),
        below 0xC2 0xDF (omega arith),
        below 0xE0 0xE0 (omega arith),
        below 0xE1 0xEC (omega arith),
        below 0xED 0xED (omega arith),
        below 0xEE 0xEF (omega arith),
        below 0xF0 0xF0 (omega arith),
        below 0xF1 0xF3 (omega arith),
        below 0xF4 0xF4 (omega arith),
      )

  pub two : 0xC2 ≤ b → b ≤ 0xDF → begun rows b ≡ some (tail ∷ [])
  two h k = rw (above 0 0x7F (omega arith), inside 0xC2 0xDF h k)

  three : 0xE1 ≤ b → b ≤ 0xEC → begun rows b ≡ some (tail ∷ tail ∷ [])
  three h k = rw (above 0 0x7F (omega arith), above 0xC2 0xDF (omega arith), above 0xE0 0xE0 (omega arith), inside 0xE1 0xEC h k)

  three_high : 0xEE ≤ b → b ≤ 0xEF → begun rows b ≡ some (tail ∷ tail ∷ [])
  three_high h k =
      rw (
        above 0 0x7F (omega arith),
        above 0xC2 0xDF (omega arith),
        above 0xE0 0xE0 (omega arith),
        above 0xE1 0xEC (omega arith),
        above 0xED 0xED (omega arith),
        inside 0xEE 0xEF h k,
      )

  pub three_but : 0xE1 ≤ b → b ≤ 0xEF → (b ≡ 0xED → ⊥) → begun rows b ≡ some (tail ∷ tail ∷ [])
  three_but h k f = go (leb b 0xEC) refl
    where
      go : (t : Bool) → leb b 0xEC ≡ t → begun rows b ≡ some (tail ∷ tail ∷ [])
      go true e = three h (leb-true b 0xEC e)
      go false e = let l : 0xEC < b = leb-false b 0xEC e in three_high (omega arith) k

  pub four : 0xF1 ≤ b → b ≤ 0xF3 → begun rows b ≡ some (tail ∷ tail ∷ tail ∷ [])
  four h k =
      rw (
        above 0 0x7F (omega arith),
        above 0xC2 0xDF (omega arith),
        above 0xE0 0xE0 (omega arith),
        above 0xE1 0xEC (omega arith),
        above 0xED 0xED (omega arith),
        above 0xEE 0xEF (omega arith),
        above 0xF0 0xF0 (omega arith),
        inside 0xF1 0xF3 h k,
      )

  pub past_last : 0xF5 ≤ b → begun rows b ≡ none
  past_last h =
      rw (
        above 0 0x7F (omega arith),
        above 0xC2 0xDF (omega arith),
        above 0xE0 0xE0 (omega arith),
        above 0xE1 0xEC (omega arith),
        above 0xED 0xED (omega arith),
        above 0xEE 0xEF (omega arith),
        above 0xF0 0xF0 (omega arith),
        above 0xF1 0xF3 (omega arith),
        above 0xF4 0xF4 (omega arith),
      )
