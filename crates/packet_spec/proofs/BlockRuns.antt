-- Blocks that lie one behind the other, and the runs of them.
use Prim.Native.Nat.{ℕ, ◌+◌, ◌≤◌}
use mathlib.Core.Path.{◌≡◌, ◌∙◌, refl, ap, sym}
use mathlib.Core.List.{List, [], ◌∷◌, ◌++◌, append_assoc, append-nil}
use native.Mathlib.Omega.{arith}
use lib.ListN.{length, take, drop, length-append, take-append-drop}
use lib.Seq.{slice, drop-drop, take-append_seam, drop-append_seam, take-take}
use Rattle.packet_spec.specs.Redundancy.{Head, total, older_of, primary_of, blocks_of, joined}
use Rattle.base.proofs.Slices.{take_slice, drop_slice}

pub joined_append : (xs ys : List (List ℕ)) → joined (xs ++ ys) ≡ joined xs ++ joined ys
joined_append [] ys = refl
joined_append (x ∷ xs) ys = ap (λ (l : List ℕ). x ++ l) (joined_append xs ys) ∙ sym (append_assoc x (joined xs) (joined ys))

-- the first k and the others
pub joined_split : (k : ℕ) (bs : List (List ℕ)) → joined bs ≡ joined (take k bs) ++ joined (drop k bs)
joined_split k bs = ap joined (sym (take-append-drop k bs)) ∙ joined_append (take k bs) (drop k bs)

-- the bytes of the first k
abbrev pub reach : List (List ℕ) → ℕ → ℕ
reach bs k = length (joined (take k bs))

joined_take : (k : ℕ) (bs : List (List ℕ)) → take (reach bs k) (joined bs) ≡ joined (take k bs)
joined_take k bs = ap (take (reach bs k)) (joined_split k bs) ∙ take-append_seam (joined (take k bs)) (joined (drop k bs))

pub joined_drop : (k : ℕ) (bs : List (List ℕ)) → drop (reach bs k) (joined bs) ≡ joined (drop k bs)
joined_drop k bs = ap (drop (reach bs k)) (joined_split k bs) ∙ drop-append_seam (joined (take k bs)) (joined (drop k bs))

pub reach_total : (bs : List (List ℕ)) (k : ℕ) → reach bs k ≤ length (joined bs)
reach_total bs k = omega (arith, ap length (joined_split k bs) ∙ length-append (joined (take k bs)) (joined (drop k bs)))

-- blocks that fill a part of a packet: those from i up to j fill the part between their places
module _ (p : List ℕ) (first end : ℕ) (bs : List (List ℕ)) (fill : slice first end p ≡ joined bs) (ends : first + length (joined bs) ≡ end) where
  pub run_fills : (i j : ℕ) → i ≤ j → slice (first + reach bs i) (first + reach bs j) p ≡ joined (slice i j bs)
  run_fills i j h =
      let r : reach bs j ≤ length (joined bs) = reach_total bs j in
      let t : take (reach bs j) (joined bs) ≡ joined (take j bs) = joined_take j bs in
      let e : reach (take j bs) i ≡ reach bs i = ap (λ (l : List (List ℕ)). length (joined l)) (take-take i j bs h) in
      sym (drop_slice first (first + reach bs j) p (reach bs i))
      ∙ ap (drop (reach bs i)) (sym (take_slice first end p (reach bs j) (omega arith)) ∙ ap (take (reach bs j)) fill ∙ t)
      ∙ ap (λ (n : ℕ). drop n (joined (take j bs))) (sym e)
      ∙ joined_drop i (take j bs)

-- cutting bytes into blocks loses none
pub cut_joined : (hs : List Head) (s : List ℕ) → joined (blocks_of (older_of hs s) (primary_of hs s)) ≡ s
cut_joined [] s = append-nil s
cut_joined (h ∷ hs) s =
    ap (λ (q : List ℕ). take h.len s ++ joined (blocks_of (older_of hs (drop h.len s)) q)) (sym (drop-drop (total hs) h.len s))
    ∙ ap (λ (l : List ℕ). take h.len s ++ l) (cut_joined hs (drop h.len s))
    ∙ take-append-drop h.len s
