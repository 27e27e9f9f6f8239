-- Bytes written at a place of the texts.
use Prim.Native.Nat.{ℕ, ◌+◌, ◌-◌, ◌≤◌}
use mathlib.Core.Path.{◌≡◌, ◌∙◌, ap, sym}
use mathlib.Core.List.{List, [], ◌++◌, append_assoc}
use native.Mathlib.Omega.{arith}
use lib.ListN.{length, take, drop, take-append-drop, length-append, length-drop}
use lib.Seq.{take-append-le, take_at, drop_at, drop-drop, take-take, take-add, length-take-le, paste}
use Rattle.base.specs.Arrays.{over}
use Rattle.slots.specs.Slots.{over_at}

-- no bytes
pub over_at_none : (at : ℕ) (l : List ℕ) → over_at at [] l ≡ l
over_at_none at l = take-append-drop at l

-- the front of a list pasted there
pub pasted : (at n : ℕ) (l s : List ℕ) → n ≤ length s → paste l at s n ≡ over_at at (take n s) l
pasted at n l s h =
    let e : at + n ≡ at + length (take n s) = omega (arith, length-take-le n s h) in
    append_assoc (take at l) (take n s) (drop (at + n) l) ∙ ap (λ (r : List ℕ). take at l ++ (take n s ++ r)) (ap (λ (k : ℕ). drop k l) e ∙ sym (drop-drop (length (take n s)) at l))

module _ (at : ℕ) (x l : List ℕ) (fits : at + length x ≤ length l) where
  over_at_cut : over_at at x l ≡ (take at l ++ x) ++ drop (at + length x) l
  over_at_cut = ap (λ (r : List ℕ). take at l ++ (x ++ r)) (drop-drop (length x) at l) ∙ sym (append_assoc (take at l) x (drop (at + length x) l))

  front_length : length (take at l ++ x) ≡ at + length x
  front_length = omega (arith, length-append (take at l) x, length-take-le at l (omega arith))

  pub over_at_length : length (over_at at x l) ≡ length l
  over_at_length = omega (arith, ap length over_at_cut, length-append (take at l ++ x) (drop (at + length x) l), front_length, length-drop (at + length x) l)

  -- a part before it
  pub over_at_before : (from n : ℕ) → from + n ≤ at → take n (drop from (over_at at x l)) ≡ take n (drop from l)
  over_at_before from n h =
      let e : take (from + n) (over_at at x l) ≡ take (from + n) l =
      take-append-le (from + n) (take at l) (over x (drop at l)) (omega (arith, length-take-le at l (omega arith))) ∙ take-take (from + n) at l h in
      let f : (m : List ℕ) → from ≤ length m → drop from (take (from + n) m) ≡ take n (drop from m) =
      λ m k. ap (drop from) (take-add from n m) ∙ drop_at (take from m) (take n (drop from m)) from (length-take-le from m k) in
      sym (f (over_at at x l) (omega (arith, over_at_length))) ∙ ap (drop from) e ∙ f l (omega arith)

  -- a part behind it
  pub over_at_behind : (from : ℕ) → at + length x ≤ from → drop from (over_at at x l) ≡ drop from l
  over_at_behind from h =
      let m = at + length x in
      let e : m + (from - m) ≡ from = omega arith in
      ap (λ (k : ℕ). drop k (over_at at x l)) (sym e) ∙ sym (drop-drop (from - m) m (over_at at x l))
      ∙ ap (drop (from - m)) (ap (drop m) over_at_cut ∙ drop_at (take at l ++ x) (drop m l) m front_length)
      ∙ drop-drop (from - m) m l ∙ ap (λ (k : ℕ). drop k l) e

  -- what stood before it, from a place on, and x
  pub over_at_joins : (from n : ℕ) → from + n ≡ at → take (n + length x) (drop from (over_at at x l)) ≡ take n (drop from l) ++ x
  over_at_joins from n h =
      let old = take n (drop from l) in
      let k : from ≤ length l = omega arith in
      let e : over_at at x l ≡ take from l ++ ((old ++ x) ++ drop (at + length x) l) =
      over_at_cut ∙ ap (λ (m : List ℕ). (m ++ x) ++ drop (at + length x) l) (ap (λ (j : ℕ). take j l) (sym h) ∙ take-add from n l)
      ∙ ap (λ (m : List ℕ). m ++ drop (at + length x) l) (append_assoc (take from l) old x) ∙ append_assoc (take from l) (old ++ x) (drop (at + length x) l) in
      let size : length (old ++ x) ≡ n + length x = omega (arith, length-append old x, length-take-le n (drop from l) (omega (arith, length-drop from l))) in
      ap (λ (m : List ℕ). take (n + length x) (drop from m)) e
      ∙ ap (take (n + length x)) (drop_at (take from l) ((old ++ x) ++ drop (at + length x) l) from (length-take-le from l k))
      ∙ take_at (old ++ x) (drop (at + length x) l) (n + length x) size
