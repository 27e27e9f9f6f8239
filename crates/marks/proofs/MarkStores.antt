-- Loss marks stored one after the other.
use Prim.Native.Nat.{ℕ, zero, suc, ◌+◌, ◌*◌, ◌≤◌}
use mathlib.Core.Path.{◌≡◌, ◌∙◌, refl, ap, sym}
use mathlib.Core.List.{List, ◌++◌}
use native.Mathlib.Omega.{arith}
use native.Mathlib.Numerals.{add-one}
use lib.ListN.{length, set}
use lib.Seq.{sets}
use Rattle.base.specs.Arrays.{over}
use Rattle.receiver_spec.specs.Marks.{mark_bytes, marks}
use Rattle.base.proofs.Stores.{sets_append, sets_over, three}

pub marks_length : (n : ℕ) → length (marks n) ≡ 3 * n
marks_length zero = refl
marks_length (suc n) = omega (arith, marks_length n)

marks_snoc : (n : ℕ) → marks n ++ mark_bytes ≡ marks (suc n)
marks_snoc zero = refl
marks_snoc (suc n) = ap (λ (l : List ℕ). mark_bytes ++ l) (marks_snoc n)

-- one mark more
pub more : (l : List ℕ) (k : ℕ)
    → set (set (set (sets l 0 (marks k)) (3 * k) 0xEF) (3 * k + 1) 0xBF) (3 * k + 2) 0xBD ≡ sets l 0 (marks (k + 1))
more l k =
    let n : 3 * k ≡ 0 + length (marks k) = omega (arith, marks_length k) in
    three (sets l 0 (marks k)) (3 * k) 0xEF 0xBF 0xBD
    ∙ ap (λ (i : ℕ). sets (sets l 0 (marks k)) i mark_bytes) n
    ∙ sets_append (marks k) mark_bytes l 0
    ∙ ap (sets l 0) (marks_snoc k ∙ ap marks (sym (add-one k)))

pub marks_over_lem : (n : ℕ) (l : List ℕ) → 3 * n ≤ length l → sets l 0 (marks n) ≡ over (marks n) l
marks_over_lem n l h = sets_over (marks n) l (omega (arith, marks_length n))
