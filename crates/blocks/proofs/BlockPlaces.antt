-- Laws for callers, of a packet that the reader accepts: the places of its blocks lie within it and in order, and the bytes there
-- are its blocks.
use Prim.Native.Nat.{ℕ, zero, suc, ◌+◌, ◌-◌, ◌*◌, ◌≤◌, ◌<◌}
use mathlib.Core.Path.{◌≡◌, ◌∙◌, refl, ap, sym, subst}
use mathlib.Core.List.{List, [], ◌∷◌, append-nil}
use mathlib.Core.Bool.{Bool, true, false}
use native.Mathlib.Omega.{arith}
use native.Mathlib.Nat.{add-zero, le_trans}
use native.Mathlib.Numerals.{add-one}
use lib.Dec.{ltb}
use lib.ListN.{length, get_or, take, drop, length-append}
use lib.Seq.{slice, slice-cons, slice_empty, take_all, take-take}
use borrow.Author.Tests.{lt-ltb, le-ltb, eq-eqb, ne_eqb, ltb-true, ltb-false}
use Rattle.packet.specs.declared.Packet.{Packet}
use Rattle.base.specs.Arrays.{part}
use Rattle.packet_spec.specs.Limits.{level}
use Rattle.packet_spec.specs.Header.{header_end, payload_end}
use Rattle.packet_spec.specs.Redundancy.{Head, Block, total, blocks_of, joined}
use Rattle.packet_spec.specs.Internal.Heads.{heads_in}
use Rattle.packet_spec.specs.Reading.{Content, blocks, starts_at}
use Rattle.packet.specs.Places.{placed}
use Rattle.block_headers.specs.Headers.{no_head, head_at}
use Rattle.blocks.specs.Places.{back, start_counted_back, start_of, block_of}
use Rattle.base.proofs.PartOf.{part_slice}
use Rattle.packet_spec.proofs.BlockRuns.{reach, reach_total, run_fills}
use Rattle.packet_spec.proofs.BlocksLie.{Lies, blocks_length}
use Rattle.packet_spec.proofs.HeadsIn.{heads_length, total_more}
use Rattle.packet_spec.proofs.HeadersTell.{Headed}
use Rattle.block_headers.proofs.HeadPlaces.{head_at_is}

-- the primary lies behind the older blocks
reach_older : (older : List Block) (primary : List ℕ) → length (joined (blocks_of older primary)) ≡ reach (blocks_of older primary) (length older) + length primary
reach_older [] primary = omega (arith, length-append primary [])
reach_older (b ∷ bs) primary =
    omega (arith, reach_older bs primary, length-append b.bytes (joined (blocks_of bs primary)), length-append b.bytes (joined (take (length bs) (blocks_of bs primary))))

module _ (p : List ℕ) (k : Packet) (i : ℕ) where
  start_first : i ≡ 0 → start_of p k i ≡ k.first
  start_first e = rw (eq-eqb i 0 e)

  start_end : 0 < i → k.count < i → start_of p k i ≡ k.end
  start_end z h = rw (ne_eqb i 0 (λ e. omega arith), lt-ltb k.count i h)

  start_back : 0 < i → i ≤ k.count → start_of p k i ≡ start_counted_back p k.first k.primary (k.count - i)
  start_back z h = rw (ne_eqb i 0 (λ e. omega arith), le-ltb k.count i h)

-- back over the headers that stand from a place on
module _ (p : List ℕ) (from n first : ℕ) (within : from + 4 * n ≤ length p) where
  hs : List Head
  hs = heads_in n (drop from p)

  many : length hs ≡ n
  unfolding hs
  many = heads_length n (drop from p)

  pub back_is : (m w : ℕ) → m ≤ n → w ≤ m → back p (from + 4 * m) (first + total (take m (heads_in n (drop from p)))) w ≡ first + total (take (m - w) (heads_in n (drop from p)))
  unfolding hs
  back_is m zero h g = let e : m ≡ m - 0 = omega arith in ap (λ (j : ℕ). first + total (take j hs)) e
  back_is zero (suc w) h g = absurd (omega arith)
  back_is (suc m) (suc w) h g =
      let f : from + 4 * suc m - 4 ≡ from + 4 * m = omega arith in
      let l : head_at p (from + 4 * m) ≡ get_or hs m no_head = head_at_is p from n m (omega arith) within in
      let z : length hs ≡ n = many in
      let t : total (take (suc m) hs) ≡ total (take m hs) + (get_or hs m no_head).len = total_more hs m no_head (omega arith) in
      let d : first + total (take (suc m) hs) - (get_or hs m no_head).len ≡ first + total (take m hs) = omega arith in
      let e : m - w ≡ suc m - suc w = omega arith in
      ap (λ (j : ℕ). back p j (first + total (take (suc m) hs) - (head_at p j).len) w) f
      ∙ ap (λ (x : Head). back p (from + 4 * m) (first + total (take (suc m) hs) - x.len) w) l
      ∙ ap (λ (j : ℕ). back p (from + 4 * m) j w) d
      ∙ back_is m w (omega arith) (omega arith)
      ∙ ap (λ (j : ℕ). first + total (take j hs)) e

reach_mono : (bs : List (List ℕ)) (i j : ℕ) → i ≤ j → reach bs i ≤ reach bs j
reach_mono bs i j h =
    let e : reach (take j bs) i ≡ reach bs i = ap (λ (l : List (List ℕ)). length (joined l)) (take-take i j bs h) in
    let r : reach (take j bs) i ≤ length (joined (take j bs)) = reach_total (take j bs) i in
    omega arith

add_left : (f : ℕ) {i j : ℕ} → i ≤ j → f + i ≤ f + j
add_left f h = omega arith

middle : (e j o q : ℕ) → j ≡ o + q → j ≤ e → e - q ≡ e - j + o
middle e j o q a b = omega arith

module _ (p : List ℕ) (c : Content) (l : Lies p c) (t : Headed p c) where
  ends : starts_at p c 0 + length (joined (blocks c)) ≡ payload_end p
  ends = let h = l.room in omega arith

  primary_after : payload_end p - length c.primary ≡ starts_at p c 0 + reach (blocks c) (length c.older)
  primary_after = middle (payload_end p) (length (joined (blocks c))) (reach (blocks c) (length c.older)) (length c.primary) (reach_older c.older c.primary) l.room

  -- where each block starts, and behind the primary the end
  pub start_at : (k : ℕ) → k ≤ suc (length c.older) → start_of p (placed p c) k ≡ starts_at p c 0 + reach (blocks c) k
  start_at zero h = start_first p (placed p c) 0 refl ∙ sym (add-zero (starts_at p c 0))
  start_at (suc k) h = go (ltb (length c.older) (suc k)) refl
    where
      go : (x : Bool) → ltb (length c.older) (suc k) ≡ x → start_of p (placed p c) (suc k) ≡ starts_at p c 0 + reach (blocks c) (suc k)
      go true q =
          let j : length c.older < suc k = ltb-true (length c.older) (suc k) q in
          let b : length (blocks c) ≤ suc k = omega (arith, blocks_length c.older c.primary) in
          start_end p (placed p c) (suc k) (omega arith) j
          ∙ sym ends
          ∙ ap (λ (x : List (List ℕ)). starts_at p c 0 + length (joined x)) (sym (take_all (suc k) (blocks c) b))
      go false q =
          let i : suc k ≤ length c.older = ltb-false (length c.older) (suc k) q in
          let n = length t.hs in
          let m : length c.older ≡ n = t.count in
          let f = starts_at p c 0 in
          let from = header_end p in
          let a : f ≡ from + 4 * n + 1 = t.after (omega arith) in
          let z : f - 1 ≡ from + 4 * n = omega arith in
          let e : f + length (joined (blocks c)) ≡ payload_end p = ends in
          let o : payload_end p ≤ length p = l.inside in
          let g : payload_end p - length c.primary ≡ f + total (take n (heads_in n (drop from p))) =
          primary_after
          ∙ ap (λ (x : ℕ). f + reach (blocks c) x) m
          ∙ ap (λ (x : ℕ). f + x) (t.reaches n (omega arith))
          ∙ ap (λ (x : List Head). f + total (take n x)) t.are in
          let w : n - (n - suc k) ≡ suc k = omega arith in
          start_back p (placed p c) (suc k) (omega arith) i
          ∙ ap (λ (x : ℕ). back p x (payload_end p - length c.primary) (length c.older - suc k)) z
          ∙ ap (λ (x : ℕ). back p (from + 4 * n) x (length c.older - suc k)) g
          ∙ ap (λ (x : ℕ). back p (from + 4 * n) (f + total (take n (heads_in n (drop from p)))) (x - suc k)) m
          ∙ back_is p from n f (omega arith) n (n - suc k) (omega arith) (omega arith)
          ∙ ap (λ (x : ℕ). f + total (take x (heads_in n (drop from p)))) w
          ∙ ap (λ (x : List Head). f + total (take (suc k) x)) (sym t.are)
          ∙ ap (λ (x : ℕ). f + x) (sym (t.reaches (suc k) (omega arith)))

  -- places lie in order and within the packet
  pub in_order : (i j : ℕ) → i ≤ j → j ≤ suc (length c.older) → start_of p (placed p c) i ≤ start_of p (placed p c) j
  in_order i j h k = let r : reach (blocks c) i ≤ reach (blocks c) j = reach_mono (blocks c) i j h in rw (start_at i (le_trans h k), start_at j k) (add_left (starts_at p c 0) r)

  pub within : (j : ℕ) → j ≤ suc (length c.older) → start_of p (placed p c) j ≤ length p
  within j k =
      let r : reach (blocks c) j ≤ length (joined (blocks c)) = reach_total (blocks c) j in
      let f : starts_at p c 0 + length (joined (blocks c)) ≡ payload_end p = ends in
      let i : payload_end p ≤ length p = l.inside in
      rw (start_at j k) (le_trans (add_left (starts_at p c 0) r) (subst (λ (x : ℕ). x ≤ length p) (sym f) i))

  -- the bytes between two places are the blocks between them
  pub run_is : (i j : ℕ) → i ≤ j → j ≤ suc (length c.older) → part (start_of p (placed p c) i) (start_of p (placed p c) j) p ≡ joined (slice i j (blocks c))
  run_is i j h k =
      part_slice (start_of p (placed p c) i) (start_of p (placed p c) j) p (in_order i j h k) (within j k)
      ∙ ap (λ (x : ℕ). slice x (start_of p (placed p c) j) p) (start_at i (le_trans h k))
      ∙ ap (λ (x : ℕ). slice (starts_at p c 0 + reach (blocks c) i) x p) (start_at j k)
      ∙ run_fills p (starts_at p c 0) (payload_end p) (blocks c) l.fill ends i j h

  pub block_is : (k : ℕ) → k ≤ length c.older → k ≤ level → block_of p (placed p c) k ≡ get_or (blocks c) k []
  block_is k h few =
      let j : k + 1 ≤ suc (length c.older) = omega arith in
      let b : k + 1 ≤ length (blocks c) = omega (arith, blocks_length c.older c.primary) in
      rw (le-ltb level k few)
      (run_is k (k + 1) (omega arith) j
      ∙ ap joined (slice-cons k (k + 1) (blocks c) [] (omega arith) b ∙ ap (λ (i : ℕ). get_or (blocks c) k [] ∷ slice i (k + 1) (blocks c)) (sym (add-one k))
      ∙ ap (λ (l : List (List ℕ)). get_or (blocks c) k [] ∷ l) (slice_empty (k + 1) (blocks c)))
      ∙ append-nil (get_or (blocks c) k []))
