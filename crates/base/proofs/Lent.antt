-- Bytes written to the front of a lent space, one run behind the other.
use Prim.Native.Nat.{ℕ, zero, suc, ◌≤◌}
use mathlib.Core.Path.{◌≡◌, ◌∙◌, refl, ap}
use mathlib.Core.List.{List, [], ◌∷◌, ◌++◌, append_assoc}
use native.Mathlib.Nat.{le_of_suc-le-suc, not-suc-le-zero}
use native.Mathlib.Omega.{arith}
use lib.ListN.{length, take, drop, take-append-drop, length-append, length-drop}
use lib.Seq.{take-append_seam, drop-append_seam, drop-drop, take-length}
use borrow.Rule.Slice.PartMut.{put_mid, mid_of}
use Rattle.base.specs.Arrays.{over}

-- all of x was copied to the front of p
pub copied : (x p to : List ℕ) → to ≡ take (length x) x ++ drop (length x) p → to ≡ over x p
copied x p to e = e ∙ ap (λ (l : List ℕ). l ++ drop (length x) p) (take-length x)

pub length_over : (x p : List ℕ) → length x ≤ length p → length (over x p) ≡ length p
length_over x p h = simp (length-append, length-drop) (omega arith)

drop_front : (n k : ℕ) (l : List ℕ) → n ≤ k → drop n (take k l) ++ drop k l ≡ drop n l
drop_front zero k l h = take-append-drop k l
drop_front (suc n) zero l h = absurd (not-suc-le-zero h)
drop_front (suc n) (suc k) [] h = refl
drop_front (suc n) (suc k) (y ∷ l) h = drop_front n k l (le_of_suc-le-suc h)

-- a part that was lent, of k bytes from a on, comes back with x over its front
pub back : (a k : ℕ) (p x : List ℕ) → length x ≤ k → put_mid a k p (over x (mid_of a k p)) ≡ take a p ++ over x (drop a p)
back a k p x h =
    ap (λ (l : List ℕ). take a p ++ l)
    (append_assoc x (drop (length x) (take k (drop a p))) (drop k (drop a p)) ∙ ap (λ (l : List ℕ). x ++ l) (drop_front (length x) k (drop a p) h))

grow : (w x p : List ℕ) → take (length w) (over w p) ++ over x (drop (length w) (over w p)) ≡ over (w ++ x) p
grow w x p = rw (take-append_seam, drop-append_seam, drop-drop, length-append, append_assoc)

-- w stands over the front of p; the part behind it was lent, and came back with x over its front
pub wrote : (w x p to part : List ℕ) (at k : ℕ) → at ≡ length w → to ≡ over w p → length x ≤ k → part ≡ over x (mid_of at k to)
    → put_mid at k to part ≡ over (w ++ x) p
wrote w x p to part at k ea et h ep =
    ap (λ (l : List ℕ). put_mid at k to l) ep
    ∙ back at k to x h
    ∙ ap (λ (l : List ℕ). take at l ++ over x (drop at l)) et
    ∙ ap (λ (n : ℕ). take n (over w p) ++ over x (drop n (over w p))) ea
    ∙ grow w x p
