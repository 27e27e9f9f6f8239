-- The times behind characters that leave: theirs in front, and the last before them.
use Prim.Native.Nat.{ℕ, zero, suc, ◌+◌, ◌-◌, ◌≤◌, ◌<◌, min}
use mathlib.Core.Path.{◌≡◌, ◌∙◌, refl, ap, ap₂, sym}
use mathlib.Core.List.{List, [], ◌∷◌, ◌++◌, map}
use mathlib.Core.Bool.{Bool, true, false}
use native.Mathlib.Omega.{arith}
use lib.Dec.{ltb}
use lib.ListN.{length, get_or, set, take, replicate, length-set}
use lib.Seq.{take_all, take-take, get_or-set_same, get_or-set_other}
use borrow.Author.Tests.{ltb-true, ltb-false}
use Rattle.delivery.specs.Sending.{range}
use Rattle.delivery.proofs.Ranges.{length_map_range}
use Rattle.rate.specs.Circle.{slot_at, slot_back, times_back, times_in, around, spent_from, spent_in, next_after, used_after}
use Rattle.rate.proofs.Circle.{slot_same, slot_inside, around_stays, around_back, around_inside, back_before, back_round}

-- ranges
module _ {A : Type 0} where
  range_moved : (f g : ℕ → A) (a b m : ℕ) → ((j : ℕ) → j < m → f (a + j) ≡ g (b + j)) → map f (range a m) ≡ map g (range b m)
  range_moved f g a b zero h = refl
  range_moved f g a b (suc m) h =
      let p : a + 0 ≡ a = omega arith in
      let q : b + 0 ≡ b = omega arith in
      ap₂ {C = List A} (λ x l. x ∷ l) (sym (ap f p) ∙ h 0 (omega arith) ∙ ap g q) (range_moved f g (suc a) (suc b) m step)
    where
      step : (j : ℕ) → j < m → f (suc a + j) ≡ g (suc b + j)
      step j i =
          let p : suc a + j ≡ a + suc j = omega arith in
          let q : b + suc j ≡ suc b + j = omega arith in
          ap f p ∙ h (suc j) (omega arith) ∙ ap g q

  take_range : (f : ℕ → A) (a i m : ℕ) → take i (map f (range a m)) ≡ map f (range a (min i m))
  take_range f a zero m = let e : 0 ≡ min 0 m = omega arith in ap (λ (k : ℕ). map f (range a k)) e
  take_range f a (suc i) zero = let e : 0 ≡ min (suc i) 0 = omega arith in ap (λ (k : ℕ). map f (range a k)) e
  take_range f a (suc i) (suc m) =
      let e : suc (min i m) ≡ min (suc i) (suc m) = omega arith in
      ap (λ (l : List A). f a ∷ l) (take_range f (suc a) i m) ∙ ap (λ (k : ℕ). map f (range a k)) e

  -- what lies behind the first n of a part does not count
  take_front : (xs ys : List A) (n m : ℕ) → n ≤ m → take n (xs ++ take m ys) ≡ take n (xs ++ ys)
  take_front [] ys n m h = take-take n m ys h
  take_front (x ∷ xs) ys zero m h = refl
  take_front (x ∷ xs) ys (suc n) m h = ap (λ (l : List A). x ∷ l) (take_front xs ys n m (omega arith))

  replicate_behind : (k : ℕ) (x : A) (l : List A) → replicate k x ++ (x ∷ l) ≡ replicate (suc k) x ++ l
  replicate_behind zero x l = refl
  replicate_behind (suc k) x l = ap (λ (r : List A). x ∷ r) (replicate_behind k x l)

-- from a slot to the next
module _ (n at : ℕ) (h : at < n) where
  by_end : {P : Type 0} → (at + 1 < n → around n (at + 1) ≡ at + 1 → P) → (at + 1 ≡ n → around n (at + 1) ≡ 0 → P) → P
  by_end {P} f g = go (ltb (at + 1) n) refl
    where
      go : (b : Bool) → ltb (at + 1) n ≡ b → P
      go true e = let l : at + 1 < n = ltb-true (at + 1) n e in f l (around_stays n (at + 1) l)
      go false e =
          let l : n ≤ at + 1 = ltb-false (at + 1) n e in
          let w : around n (at + 1) ≡ at + 1 - n = around_back n (at + 1) l in
          g (omega arith) (omega arith)

  pub around_again : (k : ℕ) → k < n → around n (around n (at + 1) + k) ≡ around n (at + suc k)
  around_again k few = by_end
      (λ l e. let p : at + 1 + k ≡ at + suc k = omega arith in ap (λ (i : ℕ). around n (i + k)) e ∙ ap (around n) p)
      (λ l e. ap (λ (i : ℕ). around n (i + k)) e ∙ omega (arith, around_stays n (0 + k) (omega arith), around_back n (at + suc k) (omega arith)))

  back_here : slot_back n (around n (at + 1)) 0 ≡ at
  back_here = by_end
      (λ l e. ap (λ (i : ℕ). slot_back n i 0) e ∙ omega (arith, back_before n (at + 1) 0 (omega arith)))
      (λ l e. ap (λ (i : ℕ). slot_back n i 0) e ∙ omega (arith, back_round n 0 0 (omega arith)))

  back_on : (j : ℕ) → suc j < n → slot_back n (around n (at + 1)) (suc j) ≡ slot_back n at j
  back_on j k = by_end
      (λ l e. ap (λ (i : ℕ). slot_back n i (suc j)) e ∙ go (ltb j at) refl)
      (λ l e. ap (λ (i : ℕ). slot_back n i (suc j)) e ∙ omega (arith, back_round n 0 (suc j) (omega arith), back_before n at j (omega arith)))
    where
      go : (b : Bool) → ltb j at ≡ b → slot_back n (at + 1) (suc j) ≡ slot_back n at j
      go true e = let l : j < at = ltb-true j at e in omega (arith, back_before n (at + 1) (suc j) (omega arith), back_before n at j l)
      go false e = let l : at ≤ j = ltb-false j at e in omega (arith, back_round n (at + 1) (suc j) (omega arith), back_round n at j l)

  back_other : (j : ℕ) → suc j < n → slot_back n at j ≡ at → ⊥
  back_other j k e = go (ltb j at) refl
    where
      go : (b : Bool) → ltb j at ≡ b → ⊥
      go true q = let l : j < at = ltb-true j at q in omega (arith, back_before n at j l)
      go false q = let l : at ≤ j = ltb-false j at q in omega (arith, back_round n at j l)

-- one character leaves
one_spent : (n t : ℕ) (log : List ℕ) (at used : ℕ) → at < n → n ≤ length log
    → times_back n (set log at t) (around n (at + 1)) (min (used + 1) n) ≡ take n (t ∷ times_back n log at (min used n))
one_spent n t log at used h long =
    let m = min used (n - 1) in
    let count : min (used + 1) n ≡ suc m = omega arith in
    let rest : min (n - 1) (min used n) ≡ m = omega arith in
    let whole : suc (n - 1) ≡ n = omega arith in
    let inside : at < length log = omega arith in
    ap (times_back n (set log at t) next) count
    ∙ ap₂ {C = List ℕ} (λ x l. x ∷ l) (ap (λ (i : ℕ). get_or (set log at t) i 0) (back_here n at h) ∙ get_or-set_same log at t 0 inside)
    (range_moved new old 1 0 m stays ∙ ap (λ (k : ℕ). map old (range 0 k)) (sym rest) ∙ sym (take_range old 0 (n - 1) (min used n)))
    ∙ ap (λ (k : ℕ). take k (t ∷ times_back n log at (min used n))) whole
  where
    next : ℕ
    next = around n (at + 1)

    new : ℕ → ℕ
    new j = get_or (set log at t) (slot_back n next j) 0

    old : ℕ → ℕ
    old j = get_or log (slot_back n at j) 0

    stays : (j : ℕ) → j < min used (n - 1) → new (1 + j) ≡ old (0 + j)
    stays j k =
        let p : 1 + j ≡ suc j = omega arith in
        let q : 0 + j ≡ j = omega arith in
        let i : suc j < n = omega arith in
        ap new p ∙ ap (λ (i : ℕ). get_or (set log at t) i 0) (back_on n at h j i) ∙ get_or-set_other log at (slot_back n at j) t 0 (back_other n at h j i) ∙ ap old (sym q)

-- k characters leave
all_spent : (n t k : ℕ) (log : List ℕ) (at used : ℕ) → k ≤ n → at < n → n ≤ length log
    → times_back n (spent_from n log at t k) (around n (at + k)) (min (used + k) n) ≡ take n (replicate k t ++ times_back n log at (min used n))
all_spent n t zero log at used few h long =
    let a : at + 0 ≡ at = omega arith in
    let u : used + 0 ≡ used = omega arith in
    let e : length (times_back n log at (min used n)) ≡ min used n = length_map_range (λ j. get_or log (slot_back n at j) 0) 0 (min used n) in
    ap (λ (i : ℕ). times_back n log (around n i) (min (used + 0) n)) a
    ∙ ap (λ (i : ℕ). times_back n log i (min (used + 0) n)) (around_stays n at h)
    ∙ ap (λ (i : ℕ). times_back n log at (min i n)) u
    ∙ sym (take_all n (times_back n log at (min used n)) (omega arith))
all_spent n t (suc k) log at used few h long =
    let u : used + suc k ≡ used + 1 + k = omega arith in
    let l : n ≤ length (set log at t) = omega (arith, length-set log at t) in
    let b : around n (at + 1) < n = around_inside n (at + 1) (omega arith) in
    ap (λ (i : ℕ). times_back n after i (min (used + suc k) n)) (sym (around_again n at h k (omega arith)))
    ∙ ap (λ (i : ℕ). times_back n after (around n (around n (at + 1) + k)) (min i n)) u
    ∙ all_spent n t k (set log at t) (around n (at + 1)) (used + 1) (omega arith) b l
    ∙ ap (λ (x : List ℕ). take n (replicate k t ++ x)) (one_spent n t log at used h long)
    ∙ take_front (replicate k t) (t ∷ times_back n log at (min used n)) n n (omega arith)
    ∙ ap (take n) (replicate_behind k t (times_back n log at (min used n)))
  where
    after : List ℕ
    after = spent_from n (set log at t) (around n (at + 1)) t k

pub spent_times : (n : ℕ) (log : List ℕ) (next used t k : ℕ) → k ≤ n → 0 < n → n ≤ length log
    → times_in n (spent_in n log next t k) (next_after n next k) (used_after n used k) ≡ take n (replicate k t ++ times_in n log next used)
spent_times n log next used t k few some long =
    let at = slot_at n next in
    let h : at < n = slot_inside n next some in
    let e : min k n ≡ k = omega arith in
    let m : min (min (used + k) n) n ≡ min (used + k) n = omega arith in
    ap (λ (i : ℕ). times_in n (spent_from n log at t i) (around n (at + i)) (used_after n used k)) e
    ∙ ap (λ (i : ℕ). times_back n (spent_from n log at t k) i (min (used_after n used k) n)) (slot_same n (around n (at + k)) (around_inside n (at + k) (omega arith)))
    ∙ ap (times_back n (spent_from n log at t k) (around n (at + k))) m
    ∙ all_spent n t k log at used few h long
