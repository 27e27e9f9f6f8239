-- The first byte that is not ASCII.
use Prim.Native.Nat.{ℕ, suc, ◌+◌, ◌-◌, ◌<◌, ◌≤◌}
use mathlib.Core.Path.{◌≡◌, refl, subst}
use mathlib.Core.List.{List, [], ◌∷◌}
use mathlib.Core.Bool.{Bool, true, false, cond, not}
use native.Mathlib.Omega.{arith}
use lib.ListN.{length, take, drop, get_or}
use lib.Seq.{get_or-drop}
use Rattle.std.proofs.lemmas.List.{take_rest, length-drop}
use Rattle.base.proofs.EveryLaws.{every_on}
use lib.Dec.{ltb}
use borrow.Author.Tests.{ltb-true, ltb-false}
use Rattle.std.specs.Option.{unwrap_or}
use Rattle.std.specs.Prelude.{Option, Some, None}
use Rattle.std.specs.List.{position_or_len}
use Rattle.base.specs.Every.{Every}
use Rattle.text_spec.proofs.Ascii.{Ascii}

abbrev pub other : ℕ → Bool
other b = not (ltb b 128)

abbrev IsEnd : List ℕ → ℕ → Type 0
IsEnd s n = (n ≤ length s) × Every Ascii (take n s) × (n < length s → 128 ≤ get_or s n 0)

ends : (s : List ℕ) → IsEnd s (position_or_len other s)
ends [] = (omega arith, tt, λ h. absurd (omega arith))
ends (b ∷ s) = go (ltb b 128) refl (position_or_len other s) (ends s)
  where
    go : (t : Bool) → ltb b 128 ≡ t → (n : ℕ) → IsEnd s n → IsEnd (b ∷ s) (cond (not (not t)) (1 + n) 0)
    go true e n h =
        let z : suc n ≡ 1 + n = omega arith in
        subst (IsEnd (b ∷ s)) z (omega (arith, h.0), (ltb-true b 128 e, h.1), λ k. h.2 (omega (arith, k)))
    go false e n h = (omega arith, tt, λ k. ltb-false b 128 e)

-- at a part of a list, the bytes before it being ASCII
pub end_of : (s : List ℕ) (w : ℕ) (r : Option ℕ) → w ≤ length s → Every Ascii (take w s)
    → (let rest = take (length s - w) (drop w s) in
    r ≡ cond (ltb (position_or_len other rest) (length rest)) (Some (position_or_len other rest)) None → IsEnd s (w + unwrap_or r (length rest)))
end_of s w r h front = rw (take_rest s w) (λ e. rw e (go (ltb n (length (drop w s))) refl))
  where
    n : ℕ
    n = position_or_len other (drop w s)

    at_n : IsEnd s (w + n)
    at_n =
        let e = ends (drop w s) in
        (omega (arith, e.0, h, length-drop w s), every_on Ascii w n s front e.1, λ k. rw (← get_or-drop w s n 0) (e.2 (omega (arith, k, h, length-drop w s))))

    go : (t : Bool) → ltb n (length (drop w s)) ≡ t → IsEnd s (w + unwrap_or (cond t (Some n) None) (length (drop w s)))
    go true f = at_n
    go false f =
        let z : n ≡ length (drop w s) = omega (arith, ltb-false n (length (drop w s)) f, (ends (drop w s)).0) in
        subst (λ (k : ℕ). IsEnd s (w + k)) z at_n
