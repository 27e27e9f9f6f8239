-- The core of demand 3: the record of a list of accepted packets is the one expected.
-- By induction over the packets still to come, with the newest so far: no set of past packets is carried along.
use Prim.Native.Nat.{ℕ, suc, ◌+◌, ◌-◌, ◌≤◌, ◌<◌, max}
use mathlib.Core.Bool.{Bool, true, false}
use mathlib.Core.List.{List, [], ◌∷◌, ◌++◌, map, map-map}
use mathlib.Core.Option.{Option, none}
use mathlib.Core.Path.{◌≡◌, refl, ap, ap₂, ◌∙◌, sym}
use native.Mathlib.Nat.{sub_self}
use native.Mathlib.Omega.{arith}
use lib.Dec.{ltb}
use lib.ListN.{length, replicate}
use borrow.Author.Tests.{ltb-true, ltb-false}
use Rattle.delivery.specs.Numbers.{most_ahead, most_behind, wrapped, next}
use Rattle.delivery.specs.Course.{Course, distance, is_kept, wanted, loss}
use Rattle.delivery.specs.Record.{Bytes, Entry, mark, block, last_of}
use Rattle.delivery.specs.Sending.{BlockSender, range}
use Rattle.delivery.specs.Claim.{newest_of, NearFrom, above, entry}
use Rattle.delivery.specs.Internal.Core.{BlockReceiver, expects, last_blocks, adds_at, receiver_after_at, adds, receiver_after, record_from, sent, InOrder, Delivered}
use Rattle.delivery.proofs.WrappedDistance.{distance_ahead, course_ahead, course_behind}
use Rattle.delivery.proofs.Ranges.{length_map_range, drop_range, map_range_same, map_range_const, map_range_snoc, map_range_split}
use Rattle.delivery.proofs.Arrivals.{newest_le, above_ahead, above_behind, entry_carried, entry_lost, entry_later}

joined : {a b c d : List Entry} → a ≡ b → c ≡ d → a ++ c ≡ b ++ d
joined p q = ap₂ {C = List Entry} (λ x y. x ++ y) p q

module _ (S : BlockSender) (ordered : InOrder S) where
  -- m of the sender's blocks, from block a on
  abbrev blocks : ℕ → ℕ → List Entry
  blocks a m = map (λ j. block (S.block j)) (range a m)

  -- how many blocks packet k carries before its newest
  older_count : (k : ℕ) → length (sent S k).older ≡ S.newest k - S.oldest k
  older_count k = omega (arith, length_map_range S.block (S.oldest k) (S.newest k - S.oldest k))

  -- the last w of these, and the newest
  given : (k w : ℕ) → w ≤ length (sent S k).older → map block (last_blocks w (sent S k)) ≡ blocks (S.newest k - w) (suc w)
  given k w h =
      let r = older_count k in
      let o = ordered.oldest_le k in
      let skip : ℕ = length (sent S k).older - w in
      let low : S.oldest k + skip ≡ S.newest k - w = omega arith in
      let count : S.newest k - S.oldest k - skip ≡ w = omega arith in
      let older : last_of w (sent S k).older ≡ map S.block (range (S.newest k - w) w) =
      drop_range S.block (S.oldest k) (S.newest k - S.oldest k) skip
      ∙ ap₂ (λ (a c : ℕ). map S.block (range a c)) low count in
      ap (λ (bs : List Bytes). map block (bs ++ (S.block (S.newest k) ∷ []))) older
      ∙ ap (map block) (map_range_snoc S.block (S.newest k - w) w (S.newest k) (omega arith))
      ∙ map-map block S.block (range (S.newest k - w) (suc w))

  -- blocks up to the newest of packet k, all of them in it
  carried_blocks : (k a m : ℕ) (ks : List ℕ) → S.oldest k ≤ a → a + m ≡ suc (S.newest k) → blocks a m ≡ map (entry S (k ∷ ks)) (range a m)
  carried_blocks k a m ks low top =
      map_range_same (λ j. block (S.block j)) (entry S (k ∷ ks)) a m (λ j l u. sym (entry_carried S k j ks (omega arith) (omega arith)))

  -- a receiver for which block n is the newest, with any number kept
  abbrev pub at : ℕ → Option ℕ → BlockReceiver
  at n kept = expects (next (wrapped (S.first + n))) kept

  module _ (n k : ℕ) (kept : Option ℕ) where
    abbrev hit : Bool
    hit = is_kept kept (sent S k).sequence

    -- packet k, ahead of block n
    adds_ahead : (ks : List ℕ) → n < S.newest k → S.newest k ≤ n + most_ahead
        → adds (at n kept) (sent S k) ≡ map (entry S (k ∷ above S (S.newest k) ks)) (range (suc n) (S.newest k - n))
    adds_ahead ks h near =
        let r = older_count k in
        let o = ordered.oldest_le k in
        let d : ℕ = S.newest k - suc n in
        let marks : ℕ = loss d (length (sent S k).older) in
        let w : ℕ = wanted d (length (sent S k).older) in
        let lost : replicate marks mark ≡ map (entry S (k ∷ above S (S.newest k) ks)) (range (suc n) marks) =
        sym (map_range_const (entry S (k ∷ above S (S.newest k) ks)) mark (suc n) marks (λ j l u. entry_lost S ordered k j ks (omega arith))) in
        ap₂ (λ (c : Course) (x : ℕ). adds_at c x (sent S k)) (course_ahead S.first n (S.newest k) hit h near) (distance_ahead S.first n (S.newest k) h (omega arith))
        ∙ joined lost (given k w (omega arith) ∙ carried_blocks k (S.newest k - w) (suc w) (above S (S.newest k) ks) (omega arith) (omega arith))
        ∙ map_range_split (entry S (k ∷ above S (S.newest k) ks)) (suc n) (S.newest k - w) marks (suc w) (S.newest k - n) (omega arith) (omega arith)

    pub after_ahead : n < S.newest k → S.newest k ≤ n + most_ahead → receiver_after (at n kept) (sent S k) ≡ at (S.newest k) none
    after_ahead h near = ap (λ (c : Course). receiver_after_at c (next (wrapped (S.first + n))) kept (sent S k)) (course_ahead S.first n (S.newest k) hit h near)

    -- packet k, with no block ahead of block n
    adds_behind : S.newest k ≤ n → n ≤ S.newest k + most_behind → adds (at n kept) (sent S k) ≡ []
    adds_behind h near =
        ap (λ (c : Course). adds_at c (distance (sent S k).sequence (next (wrapped (S.first + n)))) (sent S k)) (course_behind S.first n (S.newest k) hit h near)

    after_behind : S.newest k ≤ n → n ≤ S.newest k + most_behind → receiver_after (at n kept) (sent S k) ≡ at n kept
    after_behind h near = ap (λ (c : Course). receiver_after_at c (next (wrapped (S.first + n))) kept (sent S k)) (course_behind S.first n (S.newest k) hit h near)

  -- the entries of blocks after packet k's are those of the packets after it
  later_entries : (k m : ℕ) (ks : List ℕ) → map (entry S ks) (range (suc (S.newest k)) m) ≡ map (entry S (k ∷ ks)) (range (suc (S.newest k)) m)
  later_entries k m ks = map_range_same (entry S ks) (entry S (k ∷ ks)) (suc (S.newest k)) m (λ j l u. sym (entry_later S k j ks l))

  -- the entries still to come, where block n is the newest so far
  abbrev owed : ℕ → List ℕ → List Entry
  owed n ks = map (entry S (above S n ks)) (range (suc n) (newest_of S n ks - n))

  -- from any kept number: inside the window nothing jumps
  pub from_newest_lem : (n : ℕ) (kept : Option ℕ) (ks : List ℕ) → NearFrom S n ks → record_from (at n kept) (map (sent S) ks) ≡ owed n ks
  from_newest_lem n kept [] near = rw sub_self
  from_newest_lem n kept (k ∷ ks) near = go (ltb n (S.newest k)) refl (λ kept. from_newest_lem (max n (S.newest k)) kept ks near.2)
    where
      go : (b : Bool) → ltb n (S.newest k) ≡ b → ((kept : Option ℕ) → record_from (at (max n (S.newest k)) kept) (map (sent S) ks) ≡ owed (max n (S.newest k)) ks)
          → record_from (at n kept) (map (sent S) (k ∷ ks)) ≡ owed n (k ∷ ks)
      go true e rest =
          let ahead : n < S.newest k = ltb-true n (S.newest k) e in
          let top : S.newest k ≤ newest_of S (S.newest k) ks = newest_le S (S.newest k) ks in
          let larger : max n (S.newest k) ≡ S.newest k = omega arith in
          let from_k : record_from (at (S.newest k) none) (map (sent S) ks) ≡ owed (S.newest k) ks = rw larger at (rest none) in
          joined (adds_ahead n k kept ks ahead near.0)
          (ap (λ (s : BlockReceiver). record_from s (map (sent S) ks)) (after_ahead n k kept ahead near.0)
          ∙ from_k
          ∙ later_entries k (newest_of S (S.newest k) ks - S.newest k) (above S (S.newest k) ks))
          ∙ map_range_split (entry S (k ∷ above S (S.newest k) ks)) (suc n) (suc (S.newest k)) (S.newest k - n) (newest_of S (S.newest k) ks - S.newest k) (newest_of S (S.newest k) ks - n) (omega arith) (omega arith)
          ∙ sym (ap₂ (λ (l : List ℕ) (m : ℕ). map (entry S l) (range (suc n) (newest_of S m ks - n))) (above_ahead S n k ks ahead) larger)
      go false e rest =
          let behind : S.newest k ≤ n = ltb-false n (S.newest k) e in
          let larger : max n (S.newest k) ≡ n = omega arith in
          let from_n : record_from (at n kept) (map (sent S) ks) ≡ owed n ks = rw larger at (rest kept) in
          joined (adds_behind n k kept behind near.1)
          (ap (λ (s : BlockReceiver). record_from s (map (sent S) ks)) (after_behind n k kept behind near.1) ∙ from_n)
          ∙ sym (ap₂ (λ (l : List ℕ) (m : ℕ). map (entry S l) (range (suc n) (newest_of S m ks - n))) (above_behind S n k ks behind) larger)

pub delivered : Delivered
delivered S ordered [] near = refl
delivered S ordered (k ∷ ks) near =
    let r = older_count S ordered k in
    let o = ordered.oldest_le k in
    let w : ℕ = length (sent S k).older in
    let top : S.newest k ≤ newest_of S (S.newest k) ks = newest_le S (S.newest k) ks in
    joined (given S ordered k w (omega arith) ∙ carried_blocks S ordered k (S.newest k - w) (suc w) (above S (S.newest k) ks) (omega arith) (omega arith))
    (from_newest_lem S ordered (S.newest k) none ks near ∙ later_entries S ordered k (newest_of S (S.newest k) ks - S.newest k) (above S (S.newest k) ks))
    ∙ map_range_split (entry S (k ∷ above S (S.newest k) ks)) (S.newest k - w) (suc (S.newest k)) (suc w) (newest_of S (S.newest k) ks - S.newest k) (suc (newest_of S (S.newest k) ks) - S.oldest k) (omega arith) (omega arith)
    ∙ ap (λ (a : ℕ). map (entry S (k ∷ above S (S.newest k) ks)) (range a (suc (newest_of S (S.newest k) ks) - S.oldest k))) (omega arith)
