-- Laws of the front, at a place of a list.
use Prim.Native.Nat.{ℕ, suc, ◌+◌, ◌-◌, ◌<◌, ◌≤◌, min}
use mathlib.Core.Path.{◌≡◌, ◌∙◌, ap}
use mathlib.Core.List.{List, [], ◌∷◌, ◌++◌}
use mathlib.Core.Option.{none, some}
use native.Mathlib.Omega.{arith}
use lib.ListN.{length, get_or, take, drop, length-append, length-take, length-drop, drop_of_length-le}
use lib.Seq.{drop-cons, drop-drop}
use Rattle.text_spec.specs.Utf8.{Range, rows, begun}
use Rattle.text_spec.specs.Front.{front}
use Rattle.text_spec.proofs.FrontLaws.{front_on, front_stops, front_nothing}

module _ (n at : ℕ) (s : List ℕ) (h : at < length s) (k : 1 ≤ n) where
  begun_at : front n (drop at s) ≡ front (suc (n - 1)) (get_or s at 0 ∷ drop (suc at) s)
  begun_at = let p : n ≡ suc (n - 1) = omega arith in ap (λ (i : ℕ). front i (drop at s)) p ∙ ap (front (suc (n - 1))) (drop-cons s at 0 h)

  -- a byte that begins no letter
  pub front_stops_at : begun rows (get_or s at 0) ≡ none → front n (drop at s) ≡ []
  front_stops_at e = begun_at ∙ front_stops (n - 1) (get_or s at 0) (drop (suc at) s) e

  -- one that begins a letter of so many bytes more
  module _ {rest : List Range} (e : begun rows (get_or s at 0) ≡ some rest) (t : ℕ) (l : length rest ≡ t) where
    length_at : length (front n (drop at s)) ≡ 1 + min t (length s - suc at) + length (front (n - 1) (drop (at + (1 + t)) s))
    length_at =
        let p : suc at + t ≡ at + (1 + t) = omega arith in
        let q = drop (suc at) s in
        let f : front n (drop at s) ≡ get_or s at 0 ∷ (take t q ++ front (n - 1) (drop (at + (1 + t)) s)) = begun_at ∙ front_on (n - 1) (get_or s at 0) q e ∙ rw (l, drop-drop t (suc at) s, p) in
        omega (arith, ap length f, length-append (take t q) (front (n - 1) (drop (at + (1 + t)) s)), length-take t q, length-drop (suc at) s)

    pub front_on_at : at + t < length s → length (front n (drop at s)) ≡ 1 + t + length (front (n - 1) (drop (at + (1 + t)) s))
    front_on_at g = omega (arith, length_at)

    -- which the end cuts
    pub front_cut_at : length s ≤ at + t → at + length (front n (drop at s)) ≡ length s
    front_cut_at g =
        let z : front (n - 1) (drop (at + (1 + t)) s) ≡ [] = ap (front (n - 1)) (drop_of_length-le s {i = at + (1 + t)} (omega arith)) ∙ front_nothing (n - 1) in
        omega (arith, length_at, ap length z)
