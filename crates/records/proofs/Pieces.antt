-- Whole pieces one behind the other, read as bytes.
use Prim.Native.Nat.{ℕ, zero, suc, ◌+◌, ◌-◌, ◌*◌, ◌/◌, ◌%◌, ◌<◌, ◌≤◌}
use mathlib.Core.Path.{◌≡◌, ◌∙◌, refl, ap, sym}
use mathlib.Core.List.{List, [], ◌++◌, append_assoc, append-nil}
use mathlib.Core.Bool.{Bool, true}
use native.Mathlib.Omega.{arith}
use borrow.Author.Tests.{lt-ltb}
use borrow.Rule.Slice.PartMut.{put_mid, mid_of}
use lib.Dec.{ltb}
use lib.ListN.{length, get_or, take, drop, take-append-drop, length-append, length-take, length-drop}
use lib.Seq.{drop-drop, length-take-le, take-append_seam, drop-append_seam}
use Rattle.base.specs.Arrays.{over}
use Rattle.base.proofs.Fronts.{empty}
use Rattle.base.proofs.Lent.{wrote}
use Rattle.packet_spec.specs.Redundancy.{joined}
use Rattle.journal_spec.specs.Records.{piece_length}
use Rattle.journal_spec.specs.Contents.{longest_packet}
use Rattle.parts.specs.declared.Part.{Part}
use Rattle.parts.specs.Bytes.{going, byte, in_piece, piece_end}
use Rattle.parts.specs.Sound.{whole_pieces}
use Rattle.parts.proofs.Laws.{Moves, and_then, stays, first, piece_end_lem}
use Rattle.parts.proofs.Sound.{whole, whole_is}
use Rattle.pieces.specs.Internal.Pieces.{pieces_first}
use Rattle.pieces.proofs.Pieces.{First, no, one, first_is, none_asked, sizes}
use Rattle.records.specs.Internal.Turns.{in_packet, Gathers}

one_piece : (o : Bool) (size : ℕ) (ps s : List ℕ) → length ps < size → 17 ≤ length s → get_or s 0 0 ≡ 3
    → Moves (in_packet o size ps) s (in_packet o size (ps ++ take 16 (drop 1 s))) (drop 17 s)
one_piece o size ps s h l e =
    let r = in_packet o size ps in
    let t : ltb (length ps) size ≡ true = lt-ltb (length ps) size h in
    let g : going r.part ≡ true = rw t in
    let b : byte r (get_or s 0 0) ≡ in_piece r 16 ps = simp (t, e) in
    let d : length (drop 1 s) ≡ length s - 1 = length-drop 1 s in
    and_then (rw b at (first r s (omega arith) g))
    (rw (drop-drop 16 1 s) at (piece_end_lem r 16 ps (drop 1 s) 16 (omega arith) refl (omega arith)))

-- the pieces with which s begins, n at most, where the packet needs so many
module _ (o : Bool) (size : ℕ) where
  moves : (n : ℕ) (ps s : List ℕ) → length ps + 16 * n ≤ size + 15
      → Moves (in_packet o size ps) s (in_packet o size (ps ++ joined (pieces_first n s))) (drop (17 * length (pieces_first n s)) s)
  moves zero ps s h = rw (none_asked s, append-nil ps) stays
  moves (suc n) ps s h = go (first_is n s) (λ i. moves n (ps ++ take 16 (drop 1 s)) (drop 17 s) i)
    where
      l : length (ps ++ take 16 (drop 1 s)) ≤ length ps + 16
      l = omega (arith, length-append ps (take 16 (drop 1 s)), length-take 16 (drop 1 s))

      More : Type 0
      More = length (ps ++ take 16 (drop 1 s)) + 16 * n ≤ size + 15
          → Moves (in_packet o size (ps ++ take 16 (drop 1 s))) (drop 17 s) (in_packet o size (ps ++ take 16 (drop 1 s) ++ joined (pieces_first n (drop 17 s))))
          (drop (17 * length (pieces_first n (drop 17 s))) (drop 17 s))

      go : First n s → More → Moves (in_packet o size ps) s (in_packet o size (ps ++ joined (pieces_first (suc n) s))) (drop (17 * length (pieces_first (suc n) s)) s)
      go (no e) more = rw (e, append-nil ps) stays
      go (one k there e) more =
          let m : 17 + 17 * length (pieces_first n (drop 17 s)) ≡ 17 * suc (length (pieces_first n (drop 17 s))) = omega arith in
          rw e
          (and_then (one_piece o size ps s (omega arith) there k)
          (rw (append_assoc ps (take 16 (drop 1 s)) (joined (pieces_first n (drop 17 s))), drop-drop, m) at (more (omega (arith, l)))))

module _ (size at to : ℕ) (p s : List ℕ) (w : whole_pieces at ≡ true) (fit : size ≤ longest_packet) (big : longest_packet ≤ length p)
    (up : size ≤ to) (near : to ≤ size + 15) (even : to % piece_length ≡ 0) (inside : at ≤ size)
    (count : ℕ) (ce : count ≡ length (pieces_first (length (mid_of at (to - at) p) / piece_length) s)) where
  abbrev xs : List (List ℕ)
  xs = pieces_first (length (mid_of at (to - at) p) / piece_length) s

  at_whole : (at ≤ longest_packet) × (at % piece_length ≡ 0)
  at_whole = whole_is at w

  to_fits : to ≤ longest_packet
  to_fits = omega arith

  mid_long : length (mid_of at (to - at) p) ≡ to - at
  mid_long = length-take-le (to - at) (drop at p) (omega (arith, length-drop at p, to_fits))

  asked : 16 * (length (mid_of at (to - at) p) / piece_length) ≡ to - at
  asked = let a = at_whole in let l = mid_long in omega arith

  pub room : (at + 16 * count ≤ to) × (to ≤ longest_packet)
  room = (omega (arith, (sizes (length (mid_of at (to - at) p) / piece_length) s).some, asked), to_fits)

  module _ (ys p' : List ℕ) (ye : ys ≡ over (joined (pieces_first (length (mid_of at (to - at) p) / piece_length) s)) (mid_of at (to - at) p))
      (pe : p' ≡ put_mid at (to - at) p ys) where
    bytes_long : length (joined xs) ≡ 16 * count
    bytes_long = (sizes (length (mid_of at (to - at) p) / piece_length) s).bytes ∙ ap (λ (k : ℕ). 16 * k) (sym ce)

    front_long : length (take at p) ≡ at
    front_long = length-take-le at p (omega (arith, at_whole))

    stands : p' ≡ over (take at p ++ joined xs) p
    stands =
        pe ∙ wrote (take at p) (joined xs) p p ys at (to - at) (sym front_long)
        (sym (ap (λ (k : ℕ). take at p ++ drop k p) front_long ∙ take-append-drop at p)) (omega (arith, room, bytes_long)) ye

    all_long : length (take at p ++ joined xs) ≡ at + 16 * count
    all_long = length-append (take at p) (joined xs) ∙ (λ i. front_long i + bytes_long i)

    gathered_front : take (at + 16 * count) p' ≡ take at p ++ joined xs
    gathered_front = (λ i. take (sym all_long i) (stands i)) ∙ take-append_seam (take at p ++ joined xs) (drop (length (take at p ++ joined xs)) p)

    behind_them : drop (at + 16 * count) p' ≡ drop (at + 16 * count) p
    behind_them =
        (λ i. drop (sym all_long i) (stands i)) ∙ drop-append_seam (take at p ++ joined xs) (drop (length (take at p ++ joined xs)) p)
        ∙ ap (λ (k : ℕ). drop k p) all_long

    pub gathers : (d : Part) (end used : ℕ) → end ≡ at + 16 * count → used ≡ 17 * count → d ≡ piece_end size (take end p') → Gathers size at p s d end p' used
    gathers d end used ee ue de = record {
      part = de;
      whole = whole end (omega (arith, room, to_fits)) (let a = at_whole in omega arith);
      within = omega (arith, (sizes (length (mid_of at (to - at) p) / piece_length) s).within);
      reads = λ o. (go o).to;
      leaves = λ o. (go o).left;
      rest = rw ee behind_them;
      none = λ z. none z;
    }
      where
        used_is : 17 * length xs ≡ used
        used_is = omega (arith, ce)

        go : (o : Bool) → Moves (in_packet o size (take at p)) s (in_packet o size (take end p')) (drop used s)
        go o =
            rw (ee, gathered_front)
            (rw used_is at (moves o size (length (mid_of at (to - at) p) / piece_length) (take at p) s (omega (arith, asked, front_long))))

        none : used ≡ 0 → (end ≡ at) × (p' ≡ p)
        none z =
            let c : at + 16 * count ≡ at = omega arith in
            let e : joined xs ≡ [] = empty (joined xs) (omega (arith, bytes_long)) in (
              ee ∙ c,
              sym (take-append-drop (at + 16 * count) p') ∙ (λ i. gathered_front i ++ behind_them i)
                  ∙ (λ i. (take at p ++ e i) ++ drop (c i) p) ∙ ap (λ (l : List ℕ). l ++ drop at p) (append-nil (take at p)) ∙ take-append-drop at p,
            )
