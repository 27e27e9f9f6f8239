-- Laws of what holds of every element of a list.
use Prim.Native.Nat.{ℕ, zero, suc, ◌+◌, ◌<◌}
use mathlib.Core.Path.{◌≡◌}
use mathlib.Core.List.{List, [], ◌∷◌, ◌++◌, map, reverse, reverse_aux, Memᴰ}
use native.Mathlib.Omega.{arith}
use lib.ListN.{length, get_or, take, drop}
use lib.Seq.{take-nil}
use Rattle.base.specs.Every.{Every}

module _ {A : Type 0} (P : A → Type 0) where
  pub every_append : (xs ys : List A) → Every P xs → Every P ys → Every P (xs ++ ys)
  every_append [] ys e f = f
  every_append (x ∷ xs) ys e f = (e.0, every_append xs ys e.1 f)

  pub every_behind : (xs ys : List A) → Every P (xs ++ ys) → Every P ys
  every_behind [] ys e = e
  every_behind (x ∷ xs) ys e = every_behind xs ys e.1

  pub every_take : (n : ℕ) (xs : List A) → Every P xs → Every P (take n xs)
  every_take zero xs e = tt
  every_take (suc n) [] e = tt
  every_take (suc n) (x ∷ xs) e = (e.0, every_take n xs e.1)

  pub every_drop : (n : ℕ) (xs : List A) → Every P xs → Every P (drop n xs)
  every_drop zero xs e = e
  every_drop (suc n) [] e = e
  every_drop (suc n) (x ∷ xs) e = every_drop n xs e.1

  -- of a longer front: some more elements, and one more
  pub every_on : (n m : ℕ) (xs : List A) → Every P (take n xs) → Every P (take m (drop n xs)) → Every P (take (n + m) xs)
  every_on zero m xs e f = let z : 0 + m ≡ m = omega arith in rw z f
  every_on (suc n) m [] e f = rw (take-nil (suc n + m)) tt
  every_on (suc n) m (x ∷ xs) e f = let z : suc n + m ≡ suc (n + m) = omega arith in rw z (e.0, every_on n m xs e.1 f)

  pub every_next : (n : ℕ) (xs : List A) (d : A) → n < length xs → Every P (take n xs) → P (get_or xs n d) → Every P (take (n + 1) xs)
  every_next n [] d h e p = absurd (omega arith)
  every_next zero (x ∷ xs) d h e p = (p, tt)
  every_next (suc n) (x ∷ xs) d h e p = let z : suc n + 1 ≡ suc (n + 1) = omega arith in rw z (e.0, every_next n xs d (omega arith) e.1 p)

  every_reverse_onto : (xs ys : List A) → Every P xs → Every P ys → Every P (reverse_aux xs ys)
  every_reverse_onto [] ys e f = f
  every_reverse_onto (x ∷ xs) ys e f = every_reverse_onto xs (x ∷ ys) e.1 (e.0, f)

  pub every_reverse : (xs : List A) → Every P xs → Every P (reverse xs)
  every_reverse xs e = every_reverse_onto xs [] e tt

  pub every_one : {x : A} {xs : List A} → Every P xs → Memᴰ x xs → P x
  every_one e (Memᴰ.head p) = rw p e.0
  every_one e (Memᴰ.tail m) = every_one e.1 m

-- of every value of a function
pub every_map : {A B : Type 0} (P : A → Type 0) (Q : B → Type 0) (f : A → B) → ((a : A) → P a → Q (f a)) → (xs : List A) → Every P xs → Every Q (map f xs)
every_map P Q f h [] e = tt
every_map P Q f h (x ∷ xs) e = (h x e.0, every_map P Q f h xs e.1)
