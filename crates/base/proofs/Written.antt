-- Bytes that are written over the front of a lent space, with more to come behind them.
use Prim.Native.Nat.{ℕ, suc, ◌+◌, ◌-◌, ◌≤◌, ◌<◌}
use mathlib.Core.Path.{◌≡◌, ◌∙◌, refl, ap, sym}
use mathlib.Core.List.{List, [], ◌∷◌, ◌++◌, append_assoc, append-nil}
use native.Mathlib.Omega.{arith}
use lib.ListN.{length, set, drop, get_or, length-append, length-take, length-drop}
use lib.Seq.{drop-cons, set-append_seam}
use borrow.Rule.Slice.PartMut.{put_mid, mid_of}
use Rattle.base.specs.Arrays.{over}
use Rattle.base.proofs.Lent.{length_over, wrote}

-- n bytes fit in the lent part
pub lent_fits : (at n : ℕ) (to : List ℕ) → at + n ≤ length to → n ≤ length (mid_of at (length to - at) to)
lent_fits at n to h = simp (length-take, length-drop) (omega arith)

-- w stands over the front of p; one byte more is stored behind it
pub stored : (w p : List ℕ) (x : ℕ) → length w < length p → set (over w p) (length w) x ≡ over (w ++ (x ∷ [])) p
stored w p x h =
    let e : suc (length w) ≡ length (w ++ (x ∷ [])) = omega (arith, length-append w (x ∷ [])) in
    ap (λ (l : List ℕ). set (w ++ l) (length w) x) (drop-cons p (length w) 0 h)
    ∙ set-append_seam w (get_or p (length w) 0) (drop (suc (length w)) p) x
    ∙ ap (λ (k : ℕ). w ++ (x ∷ drop k p)) e
    ∙ sym (append_assoc w (x ∷ []) (drop (length (w ++ (x ∷ []))) p))

-- of the bytes `whole` that are written over the front of p, `rest` is still to come, from `at` on
abbrev pub Begun : List ℕ → List ℕ → List ℕ → List ℕ → ℕ → Type 0
Begun rest whole p to at = (w : List ℕ) × (w ++ rest ≡ whole) × (at ≡ length w) × (to ≡ over w p)

pub begun_none : (whole p : List ℕ) → Begun whole whole p p 0
begun_none whole p = ([], refl, refl, refl)

pub begun_first : (x rest p to : List ℕ) (at : ℕ) → at ≡ length x → to ≡ over x p → Begun rest (x ++ rest) p to at
begun_first x rest p to at ea et = (x, refl, ea, et)

module _ (rest whole p to : List ℕ) (at : ℕ) (b : Begun rest whole p to at) (room : length whole ≤ length p) where
  pub begun_room : length to ≡ length p
  begun_room = ap length b.3 ∙ length_over b.0 p (omega (arith, simp length-append at (ap length b.1)))

  pub begun_end : at + length rest ≡ length whole
  begun_end = omega (arith, b.2, simp length-append at (ap length b.1))

  -- x is next, and was written to the lent part
  module _ (x s : List ℕ) (f : rest ≡ x ++ s) where
    pub begun_fits : at + length x ≤ length p
    begun_fits = omega (arith, b.2, simp (f, length-append) at (ap length b.1))

    pub begun_next : (part : List ℕ) → part ≡ over x (mid_of at (length to - at) to) → Begun s whole p (put_mid at (length to - at) to part) (at + length x)
    begun_next part e = (
      b.0 ++ x,
      append_assoc b.0 x s ∙ ap (λ (l : List ℕ). b.0 ++ l) (sym f) ∙ b.1,
      simp length-append (omega (arith, b.2)),
      wrote b.0 x p to part at (length to - at) b.2 b.3 (omega (arith, begun_room, begun_fits)) e,
    )

  -- the last was written to the lent part
  pub begun_last : (part : List ℕ) → part ≡ over rest (mid_of at (length to - at) to) → put_mid at (length to - at) to part ≡ over whole p
  begun_last part e =
      let f : at + length rest ≤ length p = begun_fits rest [] (sym (append-nil rest)) in
      wrote b.0 rest p to part at (length to - at) b.2 b.3 (omega (arith, begun_room, f)) e ∙ ap (λ (l : List ℕ). over l p) b.1

  -- the last, a single byte, is stored
  pub begun_store : (x : ℕ) → rest ≡ x ∷ [] → set to at x ≡ over whole p
  begun_store x f =
      ap (λ (l : List ℕ). set l at x) b.3
      ∙ ap (λ (k : ℕ). set (over b.0 p) k x) b.2
      ∙ stored b.0 p x (omega (arith, b.2, begun_end, ap length f))
      ∙ ap (λ (l : List ℕ). over (b.0 ++ l) p) (sym f)
      ∙ ap (λ (l : List ℕ). over l p) b.1

-- x was written, and then y behind it
pub wrote_both : (x y p to part : List ℕ) (at : ℕ) → at ≡ length x → to ≡ over x p → length x + length y ≤ length p
    → part ≡ over y (mid_of at (length to - at) to) → put_mid at (length to - at) to part ≡ over (x ++ y) p
wrote_both x y p to part at ea et room e = begun_last y (x ++ y) p to at (begun_first x y p to at ea et) (omega (arith, length-append x y)) part e
