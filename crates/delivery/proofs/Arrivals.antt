-- The packets that were the newest on their arrival, and which blocks they carry.
use Prim.Native.Nat.{ℕ, zero, suc, ◌+◌, ◌-◌, ◌≤◌, ◌<◌, max}
use mathlib.Core.Bool.{Bool, true, false, ◌&&◌}
use mathlib.Core.List.{List, [], ◌∷◌}
use mathlib.Core.Path.{◌≡◌, refl, ap, ◌∙◌}
use native.Mathlib.Nat.{le_refl, le_trans, add-zero, add-suc}
use native.Mathlib.Omega.{arith}
use lib.Dec.{leb, ltb}
use borrow.Author.Tests.{leb-true, leb-false, ltb-true, ltb-false, lt-ltb, le-ltb, le-leb, lt-leb}
use Rattle.delivery.specs.Record.{mark, block}
use Rattle.delivery.specs.Sending.{BlockSender, carries}
use Rattle.delivery.specs.Claim.{newest_of, above, any_carries, entry}
use Rattle.delivery.specs.Internal.Core.{InOrder}

-- what rises from each packet to the next rises over all
module _ (f : ℕ → ℕ) (rises : (k : ℕ) → f k ≤ f (suc k)) where
  rises_added : (n d : ℕ) → f n ≤ f (n + d)
  rises_added n zero = rw add-zero (le_refl (f n))
  rises_added n (suc d) = rw add-suc (le_trans (rises_added n d) (rises (n + d)))

  pub rises_over : (n k : ℕ) → n ≤ k → f n ≤ f k
  rises_over n k h =
      let sum : n + (k - n) ≡ k = omega arith in
      rw sum at (rises_added n (k - n))

module _ (S : BlockSender) where
  pub newest_le : (n : ℕ) (ks : List ℕ) → n ≤ newest_of S n ks
  newest_le n [] = le_refl n
  newest_le n (k ∷ ks) = omega (arith, newest_le (max n (S.newest k)) ks)

  module _ (n k : ℕ) (ks : List ℕ) where
    pub above_ahead : n < S.newest k → above S n (k ∷ ks) ≡ k ∷ above S (S.newest k) ks
    above_ahead h = cc (lt-ltb n (S.newest k) h)

    pub above_behind : S.newest k ≤ n → above S n (k ∷ ks) ≡ above S n ks
    above_behind h = cc (le-ltb n (S.newest k) h)

  carries_within : (k j : ℕ) → S.oldest k ≤ j → j ≤ S.newest k → carries S k j ≡ true
  carries_within k j low high = rw (le-leb (S.oldest k) j low, le-leb j (S.newest k) high)

  carries_below : (k j : ℕ) → j < S.oldest k → carries S k j ≡ false
  carries_below k j h = rw (lt-leb (S.oldest k) j h)

  carries_above : (k j : ℕ) → S.newest k < j → carries S k j ≡ false
  carries_above k j h = rw (lt-leb j (S.newest k) h) (and_false (leb (S.oldest k) j))
    where
      and_false : (b : Bool) → (b && false) ≡ false
      and_false true = refl
      and_false false = refl

  -- the entry of a block that packet k carries, and of one after those
  pub entry_carried : (k j : ℕ) (ks : List ℕ) → S.oldest k ≤ j → j ≤ S.newest k → entry S (k ∷ ks) j ≡ block (S.block j)
  entry_carried k j ks low high = rw (carries_within k j low high)

  pub entry_later : (k j : ℕ) (ks : List ℕ) → S.newest k < j → entry S (k ∷ ks) j ≡ entry S ks j
  entry_later k j ks h = rw (carries_above k j h)

  module _ (ordered : InOrder S) where
    -- a packet with a newer block reaches back no further
    reaches : (i k : ℕ) → S.newest i < S.newest k → S.oldest i ≤ S.oldest k
    reaches i k h = go (leb k i) refl
      where
        go : (b : Bool) → leb k i ≡ b → S.oldest i ≤ S.oldest k
        go true e = omega (arith, rises_over S.newest ordered.newest_rises k i (leb-true k i e))
        go false e =
            let l = leb-false k i e in
            rises_over S.oldest ordered.oldest_rises i k (omega arith)

    -- a mark stays a mark: what packet i did not reach back to, no packet with a newer block carries
    lost_stays : (i j : ℕ) (ks : List ℕ) → j < S.oldest i → any_carries S (above S (S.newest i) ks) j ≡ false
    lost_stays i j [] h = refl
    lost_stays i j (k ∷ ks) h = go (ltb (S.newest i) (S.newest k)) refl (lost_stays i j ks h) (lost_stays k j ks)
      where
        go : (b : Bool) → ltb (S.newest i) (S.newest k) ≡ b → any_carries S (above S (S.newest i) ks) j ≡ false
            → (j < S.oldest k → any_carries S (above S (S.newest k) ks) j ≡ false)
            → any_carries S (above S (S.newest i) (k ∷ ks)) j ≡ false
        go true e held moved =
            let l = ltb-true (S.newest i) (S.newest k) e in
            let m = reaches i k l in
            ap (λ (l : List ℕ). any_carries S l j) (above_ahead (S.newest i) k ks l) ∙ rw (carries_below k j (omega arith)) (moved (omega arith))
        go false e held moved = ap (λ (l : List ℕ). any_carries S l j) (above_behind (S.newest i) k ks (ltb-false (S.newest i) (S.newest k) e)) ∙ held

    -- the entry of a block before those that packet k carries
    pub entry_lost : (k j : ℕ) (ks : List ℕ) → j < S.oldest k → entry S (k ∷ above S (S.newest k) ks) j ≡ mark
    entry_lost k j ks h = rw (carries_below k j h, lost_stays k j ks h)
