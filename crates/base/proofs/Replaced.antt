-- A list whose front is replaced, one number at a time.
use Prim.Native.Nat.{ℕ, suc, ◌+◌, ◌<◌}
use mathlib.Core.Path.{◌≡◌, ◌∙◌, ap}
use mathlib.Core.List.{List, ◌++◌}
use native.Mathlib.Omega.{arith}
use lib.ListN.{length, take, drop, get_or, set}
use lib.Seq.{paste-suc, drop-cons, get_or_at, length-take-le}

module _ (new old : List ℕ) (i : ℕ) (h : i < length new) (k : i < length old) where
  pub replaced_more : set (take i new ++ drop i old) i (get_or new i 0) ≡ take (suc i) new ++ drop (suc i) old
  replaced_more =
      let e : i ≡ 0 + i = omega arith in
      let f : 0 + suc i ≡ suc i = omega arith in
      (λ j. set (take i new ++ drop (e j) old) (e j) (get_or new i 0)) ∙ paste-suc old 0 new i 0 (omega arith) h ∙ ap (λ (n : ℕ). take (suc i) new ++ drop n old) f

  -- the first that is not replaced yet
  pub not_replaced : get_or (take i new ++ drop i old) i 0 ≡ get_or old i 0
  not_replaced =
      ap (λ (l : List ℕ). get_or (take i new ++ l) i 0) (drop-cons old i 0 k)
      ∙ get_or_at (take i new) (get_or old i 0) (drop (suc i) old) 0 i (length-take-le i new (omega arith))
