-- Laws of a function over a list.
use Prim.Native.Nat.{ℕ, zero, suc, ◌<◌}
use mathlib.Core.Path.{◌≡◌, refl, ap}
use mathlib.Core.List.{List, [], ◌∷◌, map}
use native.Mathlib.Omega.{arith}
use lib.ListN.{length, get_or, set, take}

module _ {A B : Type 0} (f : A → B) where
  pub get_or_map : (l : List A) (i : ℕ) (d : A) → get_or (map f l) i (f d) ≡ f (get_or l i d)
  get_or_map [] i d = refl
  get_or_map (x ∷ l) zero d = refl
  get_or_map (x ∷ l) (suc i) d = get_or_map l i d

  pub get_or_map_inside : (l : List A) (i : ℕ) (d : A) (e : B) → i < length l → get_or (map f l) i e ≡ f (get_or l i d)
  get_or_map_inside [] i d e h = absurd (omega arith)
  get_or_map_inside (x ∷ l) zero d e h = refl
  get_or_map_inside (x ∷ l) (suc i) d e h = get_or_map_inside l i d e (omega arith)

  pub map_set : (l : List A) (i : ℕ) (x : A) → map f (set l i x) ≡ set (map f l) i (f x)
  map_set [] i x = refl
  map_set (y ∷ l) zero x = refl
  map_set (y ∷ l) (suc i) x = ap (λ (k : List B). f y ∷ k) (map_set l i x)

  pub map_take : (n : ℕ) (l : List A) → map f (take n l) ≡ take n (map f l)
  map_take zero l = refl
  map_take (suc n) [] = refl
  map_take (suc n) (x ∷ l) = ap (λ (k : List B). f x ∷ k) (map_take n l)
