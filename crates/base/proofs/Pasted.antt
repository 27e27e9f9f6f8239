-- Bytes copied into the part of a lent space that starts at a place.
use Prim.Native.Nat.{ℕ, ◌+◌, ◌-◌, ◌≤◌}
use mathlib.Core.Path.{◌≡◌, ◌∙◌, ap, sym}
use mathlib.Core.List.{List, ◌++◌, append_assoc, append-nil}
use native.Mathlib.Omega.{arith}
use borrow.Rule.Slice.PartMut.{put_mid, mid_of}
use lib.ListN.{length, take, drop, drop_of_length-le, length-drop}
use lib.Seq.{take_all, drop-drop, paste, take-paste, drop-paste, length-paste}
use Rattle.base.proofs.Slices.{mid_rest}

-- the part behind a was lent, and x copied to its front
module _ (p x ys p' : List ℕ) (a n : ℕ) (room : a + n ≤ length p) (size : length x ≡ n)
    (f : ys ≡ take (length x) x ++ drop (length x) (mid_of a (length p - a) p)) (e : p' ≡ put_mid a (length p - a) p ys) where
  pub put : p' ≡ paste p a x n
  put =
      let d : length (drop a p) ≡ length p - a = length-drop a p in
      let le : length (drop a p) ≤ length p - a = omega arith in
      let g : ys ≡ take n x ++ drop (a + n) p =
      f
      ∙ ap (λ (k : ℕ). take k x ++ drop k (mid_of a (length p - a) p)) size
      ∙ ap (λ (l : List ℕ). take n x ++ drop n l) (mid_rest a p)
      ∙ ap (λ (l : List ℕ). take n x ++ l) (drop-drop n a p) in
      e
      ∙ ap (λ (l : List ℕ). take a p ++ (ys ++ l)) (drop_of_length-le (drop a p) le)
      ∙ ap (λ (l : List ℕ). take a p ++ l) (append-nil ys ∙ g)
      ∙ sym (append_assoc (take a p) (take n x) (drop (a + n) p))

  pub same : length p' ≡ length p
  same = ap length put ∙ length-paste p a x n room (omega arith)

  pub gathered : take (a + n) p' ≡ take a p ++ x
  gathered =
      ap (take (a + n)) put
      ∙ take-paste p a x n (omega arith) (omega arith)
      ∙ ap (λ (l : List ℕ). take a p ++ l) (take_all n x (omega arith))

  pub behind_stays : drop (a + n) p' ≡ drop (a + n) p
  behind_stays = ap (drop (a + n)) put ∙ drop-paste p a x n (omega arith) (omega arith)
