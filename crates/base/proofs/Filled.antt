-- Laws of lists as arrays.
use Prim.Native.Nat.{ℕ, suc, ◌+◌, ◌-◌, ◌<◌}
use mathlib.Core.Path.{◌≡◌, ◌∙◌, ap, sym}
use mathlib.Core.List.{List, [], ◌∷◌, ◌++◌, append_assoc, append-nil}
use native.Mathlib.Omega.{arith}
use native.Mathlib.Numerals.{add-one}
use lib.ListN.{length, set, get_or, take, replicate, length-append}
use lib.Seq.{set-append_seam, take-append_seam, take-suc, length-take-le}
use Rattle.base.specs.Arrays.{filled}

module _ {A : Type 0} (z : A) (n : ℕ) (xs : List A) where
  -- one element more
  pub filled_more : (x : A) → length xs < n → set (filled z n xs) (length xs) x ≡ filled z n (xs ++ (x ∷ []))
  filled_more x l =
      let e : n - length xs ≡ suc (n - (length xs + 1)) = omega arith in
      rw (e, length-append xs (x ∷ []), append_assoc) (set-append_seam xs z (replicate (n - (length xs + 1)) z) x)

  pub take_filled : take (length xs) (filled z n xs) ≡ xs
  take_filled = take-append_seam xs (replicate (n - length xs) z)

  pub filled_whole : length xs ≡ n → filled z n xs ≡ xs
  filled_whole e = let f : n - length xs ≡ 0 = omega arith in ap (λ (k : ℕ). xs ++ replicate k z) f ∙ append-nil xs

-- an array that starts with x, and goes on with the front of a list: one element more
pub filled_behind : {A : Type 0} (z : A) (n : ℕ) (x : A) (l kept : List A) (i : ℕ) (d : A) → i < length l → i + 1 < n → kept ≡ filled z n (x ∷ take i l)
    → set kept (i + 1) (get_or l i d) ≡ filled z n (x ∷ take (i + 1) l)
filled_behind {A} z n x l kept i d h k e =
    let y = get_or l i d in
    let front = x ∷ take i l in
    let size : length front ≡ i + 1 = omega (arith, length-take-le i l (omega arith)) in
    let f : front ++ (y ∷ []) ≡ x ∷ take (i + 1) l = ap (λ (m : List A). x ∷ m) (sym (take-suc l i d h) ∙ ap (λ (j : ℕ). take j l) (sym (add-one i))) in
    ap (λ (m : List A). set m (i + 1) y) e
    ∙ ap (λ (j : ℕ). set (filled z n front) j y) (sym size)
    ∙ filled_more z n front y (omega arith)
    ∙ ap (filled z n) f
