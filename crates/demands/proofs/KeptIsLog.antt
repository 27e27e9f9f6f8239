-- The blocks that a sender keeps are the last ones of a log of what was sent, and the run that it takes of them is the run
-- of the log.
use Prim.Native.Nat.{ℕ, zero, suc, ◌+◌, ◌-◌, ◌≤◌, ◌<◌}
use mathlib.Core.Path.{◌≡◌, ◌∙◌, refl, ap, sym}
use mathlib.Core.List.{List, [], ◌∷◌, ◌++◌, map, reverse, reverse-cons}
use mathlib.Core.Bool.{Bool, true, false, cond}
use native.Mathlib.Omega.{arith}
use lib.Dec.{leb}
use lib.ListN.{take}
use borrow.Author.Tests.{le-leb, lt-leb, leb-true, leb-false}
use Rattle.delivery.specs.Sending.{range}
use Rattle.delivery.specs.Run.{oldest_age, run}
use Rattle.sender_spec.specs.State.{SentBlock}
use Rattle.sender_spec.specs.Packets.{recent_run}
use Rattle.delivery.proofs.Ranges.{map_range_snoc}

-- an age, by subtraction or by addition
age : (t a : ℕ) → leb (t - a) oldest_age ≡ leb t (a + oldest_age)
age t a = go (leb t (a + oldest_age)) refl
  where
    go : (b : Bool) → leb t (a + oldest_age) ≡ b → leb (t - a) oldest_age ≡ b
    go true e = let l : t ≤ a + oldest_age = leb-true t (a + oldest_age) e in le-leb (t - a) oldest_age (omega arith)
    go false e = let l : a + oldest_age < t = leb-false t (a + oldest_age) e in lt-leb (t - a) oldest_age (omega arith)

module _ (f : ℕ → SentBlock) where
  -- the blocks of the log before n, newest first, at most r of them
  abbrev pub down : ℕ → ℕ → List SentBlock
  down zero r = []
  down (suc n) zero = []
  down (suc n) (suc r) = f n ∷ down n r

  down_none : (n : ℕ) → down n 0 ≡ []
  down_none zero = refl
  down_none (suc n) = refl

  pub take_down : (n r m : ℕ) → r ≤ m → take r (down n m) ≡ down n r
  take_down n zero m h = sym (down_none n)
  take_down zero (suc r) m h = refl
  take_down (suc n) (suc r) zero h = absurd (omega arith)
  take_down (suc n) (suc r) (suc m) h = ap (λ l. f n ∷ l) (take_down n r m (omega arith))

  -- one more block, and at most r of them again
  pub keep_down : (n r : ℕ) → take r (f n ∷ down n r) ≡ down (suc n) r
  keep_down n zero = refl
  keep_down n (suc r) = ap (λ l. f n ∷ l) (take_down n r (suc r) (omega arith))

  -- the run that is taken of them
  pub recent_down : (t r n : ℕ) → recent_run t (down n r) ≡ down n (run (λ k. (f k).at) t r n)
  recent_down t zero n = ap (recent_run t) (down_none n) ∙ sym (down_none n)
  recent_down t (suc r) zero = refl
  recent_down t (suc r) (suc n) =
      ap (λ b. cond b (f n ∷ recent_run t (down n r)) []) (age t (f n).at)
      ∙ go (leb t ((f n).at + oldest_age)) (recent_down t r n)
    where
      go : (b : Bool) → recent_run t (down n r) ≡ down n (run (λ k. (f k).at) t r n)
          → cond b (f n ∷ recent_run t (down n r)) [] ≡ down (suc n) (cond b (suc (run (λ k. (f k).at) t r n)) 0)
      go true e = ap (λ l. f n ∷ l) e
      go false e = refl

  -- oldest first they are a range of the log
  pub reverse_down : (n m : ℕ) → m ≤ n → reverse (down n m) ≡ map f (range (n - m) m)
  reverse_down zero zero h = refl
  reverse_down zero (suc m) h = absurd (omega arith)
  reverse_down (suc n) zero h = refl
  reverse_down (suc n) (suc m) h =
      let e : suc n - suc m ≡ n - m = omega arith in
      reverse-cons (f n) (down n m)
      ∙ ap (λ l. l ++ (f n ∷ [])) (reverse_down n m (omega arith))
      ∙ map_range_snoc f (n - m) m n (omega arith)
      ∙ ap (λ a. map f (range a (suc m))) (sym e)
