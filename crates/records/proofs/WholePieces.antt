-- A turn of whole pieces, and a packet's beginning with them.
use Prim.Native.Nat.{ℕ, zero, suc, ◌+◌, ◌-◌, ◌*◌, ◌<◌, ◌≤◌}
use mathlib.Core.Path.{◌≡◌, refl, ap}
use mathlib.Core.List.{List, [], ◌∷◌}
use mathlib.Core.Bool.{true}
use native.Mathlib.Omega.{arith}
use borrow.Author.Tests.{lt-ltb, le-ltb, le-leb, ne_eqb}
use lib.ListN.{length, get_or, take, drop, length-drop}
use lib.Seq.{drop-drop, length-take-le}
use Rattle.journal_spec.specs.Contents.{longest_packet}
use Rattle.parts.specs.declared.Part.{Part}
use Rattle.parts.specs.declared.Part.TheVariants.{Kind, Length, Low}
use Rattle.reading.specs.declared.Reader.{Reader}
use Rattle.parts.specs.Bytes.{Reading, going, byte, at, record_begun}
use Rattle.parts.specs.Sound.{whole_pieces}
use Rattle.reading.specs.Reading.{reading_of, with, broken, sound}
use Rattle.records.specs.Internal.Turns.{in_packet, Gathers, Turned}
use Rattle.parts.proofs.Laws.{Moves, and_then, step}
use Rattle.base.proofs.Tests.{both}
use Rattle.parts.proofs.Sound.{whole_is}
use Rattle.reading.proofs.Sound.{small, at_part}
use Rattle.base.proofs.Slices.{mid_rest}
use Rattle.records.proofs.LentBuffer.{grows_end}
use Rattle.records.proofs.Turns.{went, went_put, some_used, sound_end}

module _ (r : Reader) (p s : List ℕ) (e : r.part ≡ Kind) (ok : sound r ≡ true) (big : longest_packet ≤ length p) where
  pub kind_whole : (whole_pieces r.at ≡ true) × (r.at ≤ longest_packet) × (r.size ≤ longest_packet)
  kind_whole = let w : whole_pieces r.at ≡ true = at_part r ok Kind e in (w, (whole_is r.at w).0, small r ok)

  -- within a packet
  module _ (inside : r.at < r.size) (d : Part) (at' : ℕ) (p' : List ℕ) (used : ℕ) (g : Gathers r.size r.at p s d at' p' used) (same : length p' ≡ length p)
    where
      begins : reading_of r p ≡ in_packet r.opened r.size (take r.at p)
      begins =
          let l : length (take r.at p) ≡ r.at = length-take-le r.at p (omega (arith, kind_whole)) in
          rw (e, l, lt-ltb r.at r.size inside)

      pub turn_pieces : (used ≡ 0 → ⊥) → (r' : Reader) → r' ≡ with r d at' → Turned r p s r' p' used
      turn_pieces h r' re =
          let i = g.part in
          let w = whole_is at' g.whole in
          let f : at' ≤ length p' = omega arith in
          rw re (some_used (not_none used h) (went_put r p s (with r d at') p' used
          (rw i (sound_end r at' (take at' p') (small r ok) (length-take-le at' p' f) w.0 w.1))
          g.within
          (rw (begins, i) (record { to = g.reads r.opened; left = g.leaves r.opened }))
          (rw i (grows_end (reading_of r p) (take at' p')))
          f
          g.rest))
        where
          not_none : (n : ℕ) → (n ≡ 0 → ⊥) → 0 < n
          not_none zero h = absurd (h refl)
          not_none (suc n) h = omega arith

      -- no whole piece is there
      pub turn_no_piece : used ≡ 0 → (r' : Reader) (n : ℕ) → Turned r p' s r' p' n → Turned r p s r' p' n
      turn_no_piece h r' n t = rw (← (g.none h).1) t

three : (r : Reading) (s : List ℕ) → r.part ≡ Kind → r.opened ≡ true → r.size ≤ length r.pieces → 2 < length s → get_or s 0 0 ≡ 2
    → Moves r s (record_begun r (get_or s 1 0 * 256 + get_or s 2 0)) (drop 3 s)
three r [] e o h l k = absurd (let z : 2 < 0 = l in omega arith)
three r (a ∷ []) e o h l k = absurd (let z : 2 < 1 = l in omega arith)
three r (a ∷ b ∷ []) e o h l k = absurd (let z : 2 < 2 = l in omega arith)
three r (a ∷ b ∷ c ∷ t) e o h l k =
    let g : going r.part ≡ true = ap going e in
    let x : byte r a ≡ at r Length = simp (e, o, k, le-ltb (length r.pieces) r.size h) in
    and_then (rw x at (step r a (b ∷ c ∷ t) g)) (and_then (step (at r Length) b (c ∷ t) refl) (step (at r (Low b)) c t refl))

module _ (r : Reader) (p s : List ℕ) (e : r.part ≡ Kind) (ok : sound r ≡ true) (there : 2 < length s) (big : longest_packet ≤ length p) (outside : r.size ≤ r.at)
    (o : r.opened ≡ true) (k : get_or s 0 0 ≡ 2) (n : ℕ) (c : n ≡ get_or s 1 0 * 256 + get_or s 2 0) where
  head : Moves (reading_of r p) s (record_begun (reading_of r p) n) (drop 3 s)
  head =
      let l : length (take r.at p) ≡ r.at = length-take-le r.at p (omega (arith, kind_whole r p s e ok big)) in
      rw (← c) at (three (reading_of r p) s e o (omega arith) there k)

  pub turn_long : longest_packet < n → (r' : Reader) → r' ≡ broken r → Turned r p s r' p 3
  turn_long h r' re =
      rw re (some_used (omega arith)
      (went (both (le-leb r.size longest_packet (small r ok)) (kind_whole r p s e ok big).0) (omega arith)
      (rw (lt-ltb longest_packet n h) at head)))

  begun_in : (m : ℕ) → m ≤ longest_packet → record_begun (reading_of r p) m ≡ in_packet r.opened m []
  begun_in zero h = refl
  begun_in (suc m) h = simp (le-ltb longest_packet (suc m) h, lt-ltb 0 (suc m) (omega arith), ne_eqb (suc m) 0 (λ z. omega arith))

  module _ (fit : n ≤ longest_packet) (d : Part) (at' : ℕ) (p' : List ℕ) (used : ℕ) (g : Gathers n 0 p (take (length s - 3) (drop 3 s)) d at' p' used) (same : length p' ≡ length p) where
    rest_goes : Gathers n 0 p (drop 3 s) d at' p' used
    rest_goes = rw (mid_rest 3 s) at g

    packet_used : 3 + used ≤ length s
    packet_used = omega (arith, rest_goes.within, length-drop 3 s)

    pub turn_packet : Turned r p s (record { opened = r.opened; part = d; size = n; at = at' }) p' (3 + used)
    turn_packet =
        let i = g.part in
        let w = whole_is at' g.whole in
        let f : at' ≤ length p' = omega arith in
        let b : Reader = record { opened = r.opened; part = Kind; size = n; at = 0 } in
        let m : Moves (in_packet r.opened n []) (drop 3 s) (in_packet r.opened n (take at' p')) (drop used (drop 3 s)) =
        record { to = rest_goes.reads r.opened; left = rest_goes.leaves r.opened } in
        some_used (omega arith) (went_put r p s (record { opened = r.opened; part = d; size = n; at = at' }) p' (3 + used)
        (rw i (sound_end b at' (take at' p') fit (length-take-le at' p' f) w.0 w.1))
        packet_used
        (rw i (and_then (rw (begun_in n fit) at head) (rw (drop-drop used 3 s) at m)))
        (rw i (grows_end (reading_of b p) (take at' p')))
        f
        rest_goes.rest)
