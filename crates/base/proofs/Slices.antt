-- Parts of a part of a list.
use Prim.Native.Nat.{ℕ, zero, suc, ◌+◌, ◌-◌, ◌<◌, ◌≤◌}
use mathlib.Core.Path.{◌≡◌, ◌∙◌, refl, ap, sym}
use mathlib.Core.List.{List, [], ◌∷◌}
use native.Mathlib.Omega.{arith}
use lib.ListN.{length, get_or, take, drop, length-drop}
use lib.Seq.{slice, length-slice, take_all, get_or-drop, get_or-take, take-take, drop-drop, take-nil}

module _ {A : Type 0} where
  take_drop : (n f : ℕ) (l : List A) → take n (drop f l) ≡ drop f (take (f + n) l)
  take_drop n zero l = let e : n ≡ 0 + n = omega arith in ap (λ (k : ℕ). take k l) e
  take_drop n (suc f) [] = take-nil n ∙ sym (ap (drop (suc f)) (take-nil (suc f + n)))
  take_drop n (suc f) (x ∷ l) =
      let e : suc (f + n) ≡ suc f + n = omega arith in
      take_drop n f l ∙ ap (λ (k : ℕ). drop (suc f) (take k (x ∷ l))) e

  pub mid_slice : (f t : ℕ) (l : List A) → f ≤ t → take (t - f) (drop f l) ≡ slice f t l
  mid_slice f t l h = let e : f + (t - f) ≡ t = omega arith in take_drop (t - f) f l ∙ ap (λ (k : ℕ). slice f k l) e

  pub mid_rest : (f : ℕ) (l : List A) → take (length l - f) (drop f l) ≡ drop f l
  mid_rest f l = take_all (length l - f) (drop f l) (omega (arith, length-drop f l))

  -- an end of a list, by its length
  end_of : (m : List A) (k : ℕ) → drop (length m - length (drop k m)) m ≡ drop k m
  end_of m zero = let e : length m - length m ≡ 0 = omega arith in ap (λ (n : ℕ). drop n m) e
  end_of [] (suc k) = refl
  end_of (x ∷ m) (suc k) =
      let l : length (drop k m) ≡ length m - k = length-drop k m in
      let e : suc (length m) - length (drop k m) ≡ suc (length m - length (drop k m)) = omega arith in
      ap (λ (n : ℕ). drop n (x ∷ m)) e ∙ end_of m k

  module _ (f t : ℕ) (l : List A) where
    pub get_or_slice : (i : ℕ) (d : A) → f + i < t → get_or (slice f t l) i d ≡ get_or l (f + i) d
    get_or_slice i d h = get_or-drop f (take t l) i d ∙ get_or-take t l (f + i) d h

    pub take_slice : (n : ℕ) → f + n ≤ t → take n (slice f t l) ≡ slice f (f + n) l
    take_slice n h = take_drop n f (take t l) ∙ ap (drop f) (take-take (f + n) t l h)

    pub drop_slice : (n : ℕ) → drop n (slice f t l) ≡ slice (f + n) t l
    drop_slice n = drop-drop n f (take t l)

    -- an end of a part, by its length
    pub slice_end : (n : ℕ) → f ≤ t → t ≤ length l → slice (t - length (drop n (slice f t l))) t l ≡ drop n (slice f t l)
    slice_end n h k =
        let m = slice f t l in
        let a : length m ≡ t - f = length-slice f t l k in
        let b : length (drop n m) ≡ length m - n = length-drop n m in
        let e : t - length (drop n m) ≡ f + (length m - length (drop n m)) = omega arith in
        ap (λ (j : ℕ). slice j t l) e ∙ sym (drop_slice (length m - length (drop n m))) ∙ end_of m n
