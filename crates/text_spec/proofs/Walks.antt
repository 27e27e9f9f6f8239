-- Laws of the walk over bytes.
use Prim.Native.Nat.{ℕ, suc, ◌+◌, ◌<◌, ◌≤◌}
use mathlib.Core.Path.{◌≡◌, ◌∙◌, refl, ap, sym}
use mathlib.Core.List.{List, [], ◌∷◌}
use mathlib.Core.Option.{Option, none, some}
use mathlib.Core.Bool.{Bool, false}
use native.Mathlib.Numerals.{add-one}
use lib.ListN.{length, get_or, drop}
use lib.Seq.{drop-cons, slice, slice-cons}
use Rattle.text_spec.specs.Utf8.{Range, Stops, owed_after, begins, if_owed, text_from, well_formed}

-- one byte more of a text, and a byte at which it stops
module _ (owed : List Range) (n at b : ℕ) (bs : List ℕ) where
  pub text_on : {rest : List Range} → owed_after owed b ≡ some rest → text_from owed n at (b ∷ bs) ≡ text_from rest (n + begins owed) (at + 1) bs
  text_on e = ap (λ (o : Option (List Range)). if_owed o (λ r. text_from r (n + begins owed) (at + 1) bs) (Stops at)) e

  pub text_stops : owed_after owed b ≡ none → text_from owed n at (b ∷ bs) ≡ Stops at
  text_stops e = ap (λ (o : Option (List Range)). if_owed o (λ r. text_from r (n + begins owed) (at + 1) bs) (Stops at)) e

-- the same at a place of a list
module _ (owed : List Range) (n at : ℕ) (s : List ℕ) (h : at < length s) where
  pub on_at : {rest : List Range} → owed_after owed (get_or s at 0) ≡ some rest
      → text_from owed n at (drop at s) ≡ text_from rest (n + begins owed) (at + 1) (drop (at + 1) s)
  on_at {rest} e =
      ap (text_from owed n at) (drop-cons s at 0 h) ∙ text_on owed n at (get_or s at 0) (drop (suc at) s) e
      ∙ ap (λ (k : ℕ). text_from rest (n + begins owed) (at + 1) (drop k s)) (sym (add-one at))

  pub stops_at : owed_after owed (get_or s at 0) ≡ none → text_from owed n at (drop at s) ≡ Stops at
  stops_at e = ap (text_from owed n at) (drop-cons s at 0 h) ∙ text_stops owed n at (get_or s at 0) (drop (suc at) s) e

-- whether a text goes on well to its end, wherever it is and however many letters came before
abbrev pub goes_on : List Range → List ℕ → Bool
goes_on owed s = well_formed (text_from owed 0 0 s)

pub goes_anywhere : (s : List ℕ) (owed : List Range) (n at m k : ℕ) → well_formed (text_from owed n at s) ≡ well_formed (text_from owed m k s)
goes_anywhere [] [] n at m k = refl
goes_anywhere [] (r ∷ rs) n at m k = refl
goes_anywhere (b ∷ bs) owed n at m k = go (owed_after owed b) (λ rest. goes_anywhere bs rest (n + begins owed) (at + 1) (m + begins owed) (k + 1))
  where
    go : (o : Option (List Range))
        → ((rest : List Range) → well_formed (text_from rest (n + begins owed) (at + 1) bs) ≡ well_formed (text_from rest (m + begins owed) (k + 1) bs))
        → well_formed (if_owed o (λ r. text_from r (n + begins owed) (at + 1) bs) (Stops at))
        ≡ well_formed (if_owed o (λ r. text_from r (m + begins owed) (k + 1) bs) (Stops k))
    go none f = refl
    go (some rest) f = f rest

module _ (owed : List Range) (s : List ℕ) (f t : ℕ) (h : f < t) (g : t ≤ length s) where
  pub part_on : {rest : List Range} → owed_after owed (get_or s f 0) ≡ some rest → goes_on owed (slice f t s) ≡ goes_on rest (slice (f + 1) t s)
  part_on {rest} e =
      ap (goes_on owed) (slice-cons f t s 0 h g)
      ∙ ap well_formed (text_on owed 0 0 (get_or s f 0) (slice (suc f) t s) e)
      ∙ goes_anywhere (slice (suc f) t s) rest _ _ 0 0
      ∙ ap (λ (k : ℕ). goes_on rest (slice k t s)) (sym (add-one f))

  pub part_stops : owed_after owed (get_or s f 0) ≡ none → goes_on owed (slice f t s) ≡ false
  part_stops e = ap (goes_on owed) (slice-cons f t s 0 h g) ∙ ap well_formed (text_stops owed 0 0 (get_or s f 0) (slice (suc f) t s) e)
