-- Ranges of block numbers: split, cut, and mapped.
use Prim.Native.Nat.{ℕ, zero, suc, ◌+◌, ◌-◌, ◌≤◌, ◌<◌}
use mathlib.Core.Path.{◌≡◌, refl, ap, ap₂, ◌∙◌, sym}
use mathlib.Core.List.{List, [], ◌∷◌, ◌++◌, map, map-append}
use native.Mathlib.Nat.{add-zero, zero-add, suc-add, sub-zero, zero-sub, suc-sub-suc}
use native.Mathlib.Omega.{arith}
use lib.ListN.{length, drop, replicate}
use Rattle.delivery.specs.Sending.{range}

range_append : (a m n : ℕ) → range a (m + n) ≡ range a m ++ range (a + m) n
range_append a zero n = rw (zero-add, add-zero)
range_append a (suc m) n =
    let e : suc a + m ≡ a + suc m = omega arith in
    rw (suc-add m n) (ap (λ (l : List ℕ). a ∷ l) (rw (← e) (range_append (suc a) m n)))

module _ {B : Type 0} where
  pub length_map_range : (f : ℕ → B) (a n : ℕ) → length (map f (range a n)) ≡ n
  length_map_range f a zero = refl
  length_map_range f a (suc n) = ap suc (length_map_range f (suc a) n)

  pub drop_range : (f : ℕ → B) (a n m : ℕ) → drop m (map f (range a n)) ≡ map f (range (a + m) (n - m))
  drop_range f a n zero = rw (add-zero, sub-zero)
  drop_range f a zero (suc m) = rw (zero-sub)
  drop_range f a (suc n) (suc m) =
      let e : suc a + m ≡ a + suc m = omega arith in
      rw (suc-sub-suc, ← e) (drop_range f (suc a) n m)

  pub map_range_same : (f g : ℕ → B) (a n : ℕ) → ((j : ℕ) → a ≤ j → j < a + n → f j ≡ g j) → map f (range a n) ≡ map g (range a n)
  map_range_same f g a zero h = refl
  map_range_same f g a (suc n) h =
      ap₂ {C = List B} (λ x l. x ∷ l) (h a (omega arith) (omega arith))
      (map_range_same f g (suc a) n (λ j p q. h j (omega arith) (omega arith)))

  pub map_range_const : (f : ℕ → B) (c : B) (a n : ℕ) → ((j : ℕ) → a ≤ j → j < a + n → f j ≡ c) → map f (range a n) ≡ replicate n c
  map_range_const f c a zero h = refl
  map_range_const f c a (suc n) h =
      ap₂ {C = List B} (λ x l. x ∷ l) (h a (omega arith) (omega arith))
      (map_range_const f c (suc a) n (λ j p q. h j (omega arith) (omega arith)))

  -- a range mapped, with its next number
  pub map_range_snoc : (f : ℕ → B) (a n k : ℕ) → a + n ≡ k → map f (range a n) ++ (f k ∷ []) ≡ map f (range a (suc n))
  map_range_snoc f a zero k e =
      let q : k ≡ a = omega arith in
      ap (λ (x : ℕ). f x ∷ []) q
  map_range_snoc f a (suc n) k e = ap (λ (l : List B). f a ∷ l) (map_range_snoc f (suc a) n k (omega arith))

  -- a range mapped, in two parts
  pub map_range_split : (f : ℕ → B) (a b m n c : ℕ) → a + m ≡ b → m + n ≡ c → map f (range a m) ++ map f (range b n) ≡ map f (range a c)
  map_range_split f a b m n c p q =
      rw (← p, ← q) (sym (ap (map f) (range_append a m n) ∙ map-append f (range a m) (range (a + m) n)))
