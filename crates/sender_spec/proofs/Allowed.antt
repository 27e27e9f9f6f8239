-- How many characters may leave, by the times of all that left: newest first, of which a sender keeps the last `limit`.
use Prim.Native.Nat.{ℕ, zero, suc, ◌+◌, ◌-◌, ◌≤◌, ◌<◌, min}
use mathlib.Core.Path.{◌≡◌, ◌∙◌, refl, ap, sym}
use mathlib.Core.List.{List, [], ◌∷◌, ◌++◌}
use mathlib.Core.Bool.{Bool, true, false, cond, ◌&&◌}
use native.Mathlib.Nat.{le_trans, zero-add}
use native.Mathlib.Omega.{arith}
use lib.Dec.{ltb, leb}
use lib.ListN.{length, take, drop, replicate}
use lib.Seq.{take-nil, drop-nil, take-take}
use borrow.Author.Tests.{ltb-true, ltb-false, leb-true, leb-false, le-leb, lt-leb}
use Rattle.base.proofs.Tests.{and_left, and_right}
use Rattle.base.proofs.Fronts.{take_more}
use Rattle.sender_spec.specs.Rate.{window, outside, allowed}

-- a time from a to b, both included, and how many of these times are such
abbrev pub lies : ℕ → ℕ → ℕ → Bool
lies a b t = leb a t && leb t b

abbrev pub within : ℕ → ℕ → List ℕ → ℕ
within a b [] = 0
within a b (t ∷ times) = cond (lies a b t) 1 0 + within a b times

-- times that are at most t, and never rise
abbrev pub Falls : ℕ → List ℕ → Type 0
Falls t [] = Unit {0}
Falls t (a ∷ times) = (a ≤ t) × Falls a times

pub falls_to : (t u : ℕ) (times : List ℕ) → t ≤ u → Falls t times → Falls u times
falls_to t u [] h f = tt
falls_to t u (a ∷ times) h f = (le_trans f.0 h, f.1)

pub falls_more : (t u k : ℕ) (times : List ℕ) → t ≤ u → Falls t times → Falls u (replicate k u ++ times)
falls_more t u zero times h f = falls_to t u times h f
falls_more t u (suc k) times h f = (omega arith, falls_more t u k times h f)

at_most_one : (b : Bool) → cond b 1 0 ≤ 1
at_most_one true = omega arith
at_most_one false = omega arith

module _ (t : ℕ) where
  -- where the newest lies outside the window, all do
  none_within : (a : ℕ) (times : List ℕ) → window < t - a → Falls a times → within (t - window) t times ≡ 0
  none_within a [] h f = refl
  none_within a (b ∷ times) h f =
      let l = f.0 in
      rw (lt-leb (t - window) b (omega arith), zero-add) (none_within b times (omega arith) f.1)

  lies_within : (a : ℕ) (times : List ℕ) → a ≤ t → t - a ≤ window → within (t - window) t (a ∷ times) ≡ 1 + within (t - window) t times
  lies_within a times h k = rw (le-leb (t - window) a (omega arith), le-leb a t h)

  -- of the times that are kept, all but the first k lie outside just where at most k of all lie within
  outside_true : (times : List ℕ) (k n : ℕ) → k < n → Falls t times → outside t (drop k (take n times)) ≡ true → within (t - window) t times ≤ k
  outside_true [] k n h f e = omega arith
  outside_true (a ∷ times) k zero h f e = absurd (omega arith)
  outside_true (a ∷ times) zero (suc n) h f e =
      let z = none_within a (a ∷ times) (ltb-true window (t - a) e) (omega arith, f.1) in
      omega arith
  outside_true (a ∷ times) (suc k) (suc n) h f e =
      let z = outside_true times k n (omega arith) (falls_to a t times f.0 f.1) e in
      omega (arith, at_most_one (lies (t - window) t a))

  outside_false : (times : List ℕ) (k n : ℕ) → k < n → Falls t times → outside t (drop k (take n times)) ≡ false → k < within (t - window) t times
  outside_false [] k n h f e = absurd (no (rw (take-nil n, drop-nil k) at e))
    where
      no : true ≡ false → ⊥
      no z = let y : ◌≡◌ {A = ℕ} 0 1 = cc in omega arith
  outside_false (a ∷ times) k zero h f e = absurd (omega arith)
  outside_false (a ∷ times) zero (suc n) h f e = omega (arith, lies_within a times f.0 (ltb-false window (t - a) e))
  outside_false (a ∷ times) (suc k) (suc n) h f e =
      go (ltb window (t - a)) refl (outside_false times k n (omega arith) (falls_to a t times f.0 f.1) e)
    where
      go : (b : Bool) → ltb window (t - a) ≡ b → k < within (t - window) t times → suc k < within (t - window) t (a ∷ times)
      go true q l = absurd (let z = none_within a times (ltb-true window (t - a) q) f.1 in omega arith)
      go false q l = omega (arith, lies_within a times f.0 (ltb-false window (t - a) q))

  -- so as many may leave as the window has room for
  pub allowed_is : (limit : ℕ) (times : List ℕ) → Falls t times → (m : ℕ) → allowed limit (take limit times) t m ≡ min m (limit - within (t - window) t times)
  allowed_is limit times f zero = omega arith
  allowed_is limit times f (suc m) =
      go (leb (suc m) limit) refl (outside t (drop (limit - suc m) (take limit times))) refl (allowed_is limit times f m)
    where
      go : (a : Bool) → leb (suc m) limit ≡ a → (b : Bool) → outside t (drop (limit - suc m) (take limit times)) ≡ b
          → allowed limit (take limit times) t m ≡ min m (limit - within (t - window) t times)
          → cond (a && b) (suc m) (allowed limit (take limit times) t m) ≡ min (suc m) (limit - within (t - window) t times)
      go false p b q e = let h = leb-false (suc m) limit p in omega arith
      go true p true q e =
          let h = leb-true (suc m) limit p in
          let k = outside_true times (limit - suc m) limit (omega arith) f q in
          omega arith
      go true p false q e =
          let h = leb-true (suc m) limit p in
          let k = outside_false times (limit - suc m) limit (omega arith) f q in
          omega arith

-- a sender that keeps the last `limit` times needs no more to keep them
pub keeps_last : (limit k t : ℕ) (times : List ℕ) → take limit (replicate k t ++ take limit times) ≡ take limit (replicate k t ++ times)
keeps_last limit k t times =
    let new = replicate k t in
    take_more limit new (take limit times)
    ∙ ap (take limit new ++◌) (take-take (limit - length new) limit times (omega arith))
    ∙ sym (take_more limit new times)

module _ (a b : ℕ) where
  pub within_append : (x y : List ℕ) → within a b (x ++ y) ≡ within a b x + within a b y
  within_append [] y = omega arith
  within_append (t ∷ x) y = omega (arith, within_append x y)

  pub within_replicate : (k t : ℕ) (c : Bool) → lies a b t ≡ c → within a b (replicate k t) ≡ cond c k 0
  within_replicate zero t true e = refl
  within_replicate zero t false e = refl
  within_replicate (suc k) t true e = omega (arith, ap (λ (c : Bool). cond {A = ℕ} c 1 0) e, within_replicate k t true e)
  within_replicate (suc k) t false e = omega (arith, ap (λ (c : Bool). cond {A = ℕ} c 1 0) e, within_replicate k t false e)

  -- a window that reaches further back, and past the newest, has no fewer
  pub within_more : (c d t : ℕ) (times : List ℕ) → c ≤ a → t ≤ d → Falls t times → within a b times ≤ within c d times
  within_more c d t [] h k f = omega arith
  within_more c d t (u ∷ times) h k f = go (lies a b u) refl (within_more c d u times h (le_trans f.0 k) f.1)
    where
      go : (e : Bool) → lies a b u ≡ e → within a b times ≤ within c d times → cond e 1 0 + within a b times ≤ within c d (u ∷ times)
      go true e i =
          let l = leb-true a u (and_left (leb a u) (leb u b) e) in
          let m = f.0 in
          rw (le-leb c u (omega arith), le-leb u d (omega arith)) (omega arith)
      go false e i = omega arith

-- characters that have room in the window at t, and leave then, are too many in no window
pub limit_kept : (limit k t u : ℕ) (times : List ℕ) → Falls u times → u ≤ t → k ≤ limit - within (t - window) t times
    → ((a : ℕ) → within a (a + window) times ≤ limit) → (a : ℕ) → within a (a + window) (replicate k t ++ times) ≤ limit
limit_kept limit k t u times f l h old a = go (lies a (a + window) t) refl
  where
    split : within a (a + window) (replicate k t ++ times) ≡ within a (a + window) (replicate k t) + within a (a + window) times
    split = within_append a (a + window) (replicate k t) times

    go : (b : Bool) → lies a (a + window) t ≡ b → within a (a + window) (replicate k t ++ times) ≤ limit
    go true e =
        let w : within a (a + window) times ≤ within (t - window) t times =
        let p = leb-true t (a + window) (and_right (leb a t) (leb t (a + window)) e) in within_more a (a + window) (t - window) t u times (omega arith) l f in
        let o : within (t - window) t times ≤ within (t - window) (t - window + window) times = within_more (t - window) t (t - window) (t - window + window) u times (omega arith) (omega arith) f in
        omega (arith, split, within_replicate a (a + window) k t true e, old (t - window))
    go false e = omega (arith, split, within_replicate a (a + window) k t false e, old a)
