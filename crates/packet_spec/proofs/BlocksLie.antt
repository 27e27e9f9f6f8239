-- What is known of a packet that the reader accepts: its blocks fill the payload's end, their ages fall, they are text and few,
-- and the packet has the source that was expected.
use Prim.Native.Nat.{ℕ, suc, ◌+◌, ◌-◌, ◌≤◌}
use mathlib.Core.Path.{◌≡◌, ◌∙◌, refl, ap, sym, subst}
use mathlib.Core.List.{List, [], ◌∷◌, map}
use mathlib.Core.Bool.{Bool, true, false}
use native.Mathlib.Omega.{arith}
use lib.Dec.{ltb, eqb}
use lib.ListN.{length, take, drop, get_or, length-drop, length-append, get_or-eq_default, drop_of_length-le}
use lib.Seq.{slice, length-slice, slice_empty, drop-cons, take-append_seam}
use borrow.Author.Tests.{ltb-true, ltb-false, eqb-true, not-false}
use Rattle.base.specs.Arrays.{part}
use Rattle.base.specs.Checks.{Check, checked}
use Rattle.packet_spec.specs.Limits.{longest}
use Rattle.packet_spec.specs.Header.{Any, Only, Expected, header_end, payload_end, payload, source_of}
use Rattle.packet_spec.specs.Redundancy.{Head, Block, falling, offsets, older_of, blocks_of, joined, all_text}
use Rattle.packet_spec.specs.Reading.{Content, Read, holds, refused, header_checks, heads_of, content, blocks_read, reading, blocks, starts_at, block_at}
use Rattle.base.proofs.PartOf.{part_slice}
use Rattle.base.proofs.Slices.{take_slice, drop_slice, slice_end}
use Rattle.packet_spec.proofs.Payload.{payload_inside}
use Rattle.base.proofs.InOrder.{NoneApplies}
use Rattle.packet_spec.proofs.Accepted.{Accepted, accepted, none_applies}
use Rattle.packet_spec.proofs.BlockRuns.{reach, joined_split, joined_drop, cut_joined}

pub blocks_length : (older : List Block) (primary : List ℕ) → length (blocks_of older primary) ≡ suc (length older)
blocks_length [] primary = refl
blocks_length (b ∷ bs) primary = ap suc (blocks_length bs primary)

pub older_length : (hs : List Head) (s : List ℕ) → length (older_of hs s) ≡ length hs
older_length [] s = refl
older_length (h ∷ hs) s = ap suc (older_length hs (drop h.len s))

pub older_offsets : (hs : List Head) (s : List ℕ) → offsets (older_of hs s) ≡ map (λ h. h.offset) hs
older_offsets [] s = refl
older_offsets (h ∷ hs) s = ap (λ (l : List ℕ). h.offset ∷ l) (older_offsets hs (drop h.len s))

-- arithmetic of places
within_end : (l m k e h : ℕ) → l ≡ m - k → m ≡ e - h → l ≤ e
within_end l m k e h a b = omega arith

pub record Lies (p : List ℕ) (c : Content) : Type 0 where
  pub inside : payload_end p ≤ length p
  pub room : length (joined (blocks c)) ≤ payload_end p
  pub fill : slice (starts_at p c 0) (payload_end p) p ≡ joined (blocks c)

-- the blocks from one on fill the payload's end
pub rest_fills : (p : List ℕ) (c : Content) → Lies p c → (i : ℕ) → slice (payload_end p - length (joined (drop i (blocks c)))) (payload_end p) p ≡ joined (drop i (blocks c))
rest_fills p c l i =
    let bs = blocks c in
    let s : length (joined bs) ≡ reach bs i + length (joined (drop i bs)) = ap length (joined_split i bs) ∙ length-append (joined (take i bs)) (joined (drop i bs)) in
    let r : length (joined bs) ≤ payload_end p = l.room in
    let f : payload_end p - length (joined (drop i bs)) ≡ starts_at p c 0 + reach bs i = omega arith in
    ap (λ (j : ℕ). slice j (payload_end p) p) f ∙ sym (drop_slice (starts_at p c 0) (payload_end p) p (reach bs i)) ∙ ap (drop (reach bs i)) l.fill ∙ joined_drop i bs

-- the bytes at a block's place are the block's; behind the primary there are none
pub block_is : (p : List ℕ) (c : Content) → Lies p c → (k : ℕ) → block_at p c k ≡ get_or (blocks c) k []
block_is p c l k = go (ltb k (length bs)) refl
  where
    bs : List (List ℕ)
    bs = blocks c

    inside : (i : ℕ) → length (joined (drop i bs)) ≤ payload_end p
    inside i =
        let s : length (joined bs) ≡ reach bs i + length (joined (drop i bs)) = ap length (joined_split i bs) ∙ length-append (joined (take i bs)) (joined (drop i bs)) in
        let r : length (joined bs) ≤ payload_end p = l.room in
        omega arith

    go : (b : Bool) → ltb k (length bs) ≡ b → block_at p c k ≡ get_or bs k []
    go true q =
        let b = get_or bs k [] in
        let rest = drop (suc k) bs in
        let d : drop k bs ≡ b ∷ rest = drop-cons bs k [] (ltb-true k (length bs) q) in
        let n : length (joined (drop k bs)) ≡ length b + length (joined rest) = ap (λ (x : List (List ℕ)). length (joined x)) d ∙ length-append b (joined rest) in
        let m : length (joined (drop k bs)) ≤ payload_end p = inside k in
        let e : payload_end p ≤ length p = l.inside in
        let t : starts_at p c (suc k) ≡ starts_at p c k + length b = omega arith in
        part_slice (starts_at p c k) (starts_at p c (suc k)) p (omega arith) (omega arith)
        ∙ ap (λ (x : ℕ). slice (starts_at p c k) x p) t
        ∙ sym (take_slice (starts_at p c k) (payload_end p) p (length b) (omega arith))
        ∙ ap (take (length b)) (rest_fills p c l k ∙ ap joined d)
        ∙ take-append_seam b (joined rest)
    go false q =
        let h : length bs ≤ k = ltb-false k (length bs) q in
        let d : drop k bs ≡ [] = drop_of_length-le bs h in
        let g : length bs ≤ suc k = omega arith in
        let f : drop (suc k) bs ≡ [] = drop_of_length-le bs g in
        let x : starts_at p c k ≡ starts_at p c (suc k) = ap (λ (y : List (List ℕ)). payload_end p - length (joined y)) (d ∙ sym f) in
        let e : payload_end p ≤ length p = l.inside in
        ap (λ (a : ℕ). part a (starts_at p c (suc k)) p) x
        ∙ part_slice (starts_at p c (suc k)) (starts_at p c (suc k)) p (omega arith) (omega arith)
        ∙ slice_empty (starts_at p c (suc k)) p
        ∙ sym (get_or-eq_default bs [] h)

module _ (n : ℕ) (expected : Expected) (t140 red : ℕ) (p : List ℕ) (c : Content) (e : reading n expected t140 red p ≡ holds c) where
  is_accepted_lem : Accepted n expected t140 red p c
  is_accepted_lem = accepted n expected t140 red p c e

  pub lies : Lies p c
  lies =
      let a = is_accepted_lem in
      let hs = a.hs in
      let s = a.s in
      let m = payload p in
      let k = content p hs s in
      let h : header_end p ≤ payload_end p = payload_inside p a.checks.1.1.1.1.0 a.checks.1.1.1.1.1.0 in
      let i : payload_end p ≤ length p = omega arith in
      let lm : length m ≡ payload_end p - header_end p = length-slice (header_end p) (payload_end p) p i in
      let ls : length s ≡ length m - a.cut.from = ap length a.cut.behind ∙ length-drop a.cut.from m in
      let lj : length (joined (blocks k)) ≡ length s = ap length (cut_joined hs s) in
      let se : length s ≤ payload_end p = within_end (length s) (length m) a.cut.from (payload_end p) (header_end p) ls lm in
      let fill : slice (starts_at p k 0) (payload_end p) p ≡ joined (blocks k) =
      ap (λ (j : ℕ). slice (payload_end p - j) (payload_end p) p) lj
      ∙ ap (λ (l : List ℕ). slice (payload_end p - length l) (payload_end p) p) a.cut.behind
      ∙ slice_end (header_end p) (payload_end p) p a.cut.from h i
      ∙ sym a.cut.behind
      ∙ sym (cut_joined hs s) in
      subst (Lies p) (sym a.is) (record { inside = i; room = omega arith; fill = fill })

  pub are_text_lem : all_text (blocks c) ≡ true
  are_text_lem = let a = is_accepted_lem in ap (λ (k : Content). all_text (blocks k)) a.is ∙ a.text

  -- the ages of its older blocks fall, to 1 or more
  pub ages_fall_lem : falling (offsets c.older) ≡ true
  ages_fall_lem = let a = is_accepted_lem in ap (λ (k : Content). falling (offsets k.older)) a.is ∙ ap falling (older_offsets a.hs a.s) ∙ a.ages

  pub few : length c.older ≤ n
  few = let a = is_accepted_lem in omega (arith, ap (λ (k : Content). length k.older) a.is ∙ older_length a.hs a.s, a.cut.few)

  pub long : length p ≤ longest
  long = ltb-false longest (length p) is_accepted_lem.checks.1.1.0

-- a packet accepted with one expected source is accepted with any, and has that source
all_pass : (ks : List Check) (x : Read) → NoneApplies ks → checked refused ks x ≡ x
all_pass [] x a = refl
all_pass (k ∷ ks) x a = rw a.0 (all_pass ks x a.1)

pub of_one_source : (n s t140 red : ℕ) (p : List ℕ) (c : Content) → reading n (Only s) t140 red p ≡ holds c → (reading n Any t140 red p ≡ holds c) × (c.source ≡ s)
unfolding reading
of_one_source n s t140 red p c e =
    let a = accepted n (Only s) t140 red p c e in
    let x = blocks_read p (heads_of n t140 p) in
    let w = a.checks in
    let v = w.1.1.1.1 in
    let h : NoneApplies (header_checks Any t140 red p) = (w.0, (w.1.0, (w.1.1.0, (w.1.1.1.0, (v.0, (v.1.0, (v.1.1.0, (refl, tt)))))))) in (
      all_pass (header_checks Any t140 red p) x h ∙ (none_applies (header_checks (Only s) t140 red p) x c e).1,
      ap (λ (k : Content). k.source) a.is ∙ eqb-true (source_of p) s (not-false (eqb (source_of p) s) v.1.1.1.0),
    )
