-- Numbers stored one behind the other.
use Prim.Native.Nat.{ℕ, suc, ◌+◌, ◌≤◌}
use mathlib.Core.Path.{◌≡◌, ◌∙◌, ap}
use mathlib.Core.List.{List, [], ◌∷◌, ◌++◌}
use native.Mathlib.Omega.{arith}
use native.Mathlib.Nat.{add-zero, zero-add}
use lib.ListN.{length, set, drop}
use lib.Seq.{sets, sets-eq}
use Rattle.base.specs.Arrays.{over}

pub sets_append : (xs ys l : List ℕ) (i : ℕ) → sets (sets l i xs) (i + length xs) ys ≡ sets l i (xs ++ ys)
sets_append [] ys l i = ap (λ (k : ℕ). sets l k ys) (add-zero i)
sets_append (x ∷ xs) ys l i =
    let e : i + suc (length xs) ≡ suc i + length xs = omega arith in
    ap (λ (k : ℕ). sets (sets (set l i x) (suc i) xs) k ys) e ∙ sets_append xs ys (set l i x) (suc i)

pub sets_over : (xs l : List ℕ) → length xs ≤ length l → sets l 0 xs ≡ over xs l
sets_over xs l h = let e : 0 + length xs ≡ length xs = zero-add (length xs) in sets-eq xs l 0 (omega arith) ∙ ap (λ (k : ℕ). xs ++ drop k l) e

pub three : (l : List ℕ) (i x y z : ℕ) → set (set (set l i x) (i + 1) y) (i + 2) z ≡ sets l i (x ∷ y ∷ z ∷ [])
three l i x y z =
    let e : i + 1 ≡ suc i = omega arith in
    let f : i + 2 ≡ suc (suc i) = omega arith in
    ap (λ (k : ℕ). set (set (set l i x) k y) (i + 2) z) e ∙ ap (λ (k : ℕ). set (set (set l i x) (suc i) y) k z) f
