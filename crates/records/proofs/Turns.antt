-- A turn of the reader, by the facts that lead to it.
use Prim.Native.Nat.{ℕ, ◌+◌, ◌-◌, ◌%◌, ◌<◌, ◌≤◌, min}
use mathlib.Core.Path.{◌≡◌, ◌∙◌, refl, ap, sym}
use mathlib.Core.List.{List, ◌++◌}
use mathlib.Core.Bool.{true, ◌&&◌}
use native.Mathlib.Omega.{arith}
use borrow.Rule.Slice.PartMut.{put_mid, mid_of}
use borrow.Author.Tests.{ltb-true, ltb-false, leb-true, le-leb}
use lib.Dec.{ltb, leb}
use lib.ListN.{length, take, drop, length-drop}
use lib.Seq.{length-take-le, take_all}
use Rattle.base.specs.Arrays.{over}
use Rattle.base.proofs.Tests.{by_test, both, and_left, and_right}
use Rattle.base.proofs.Pasted.{gathered, same, behind_stays}
use Rattle.parts.specs.declared.Part.{Part}
use Rattle.parts.specs.declared.Part.TheVariants.{Kind, Piece, Time}
use Rattle.reading.specs.declared.Reader.{Reader}
use Rattle.journal_spec.specs.Contents.{are_zeros, longest_packet}
use Rattle.parts.specs.Bytes.{Reading, in_piece, at, piece_end}
use Rattle.reading.specs.Reading.{reading_of, with, sound}
use Rattle.reading.specs.Internal.Bytes.{time_of}
use Rattle.records.specs.Internal.Turns.{Went, Turned}
use Rattle.parts.proofs.Laws.{Moves, piece_part, piece_end_lem, time_part, time_end}
use Rattle.parts.specs.Sound.{whole_pieces, sound_at}
use Rattle.parts.proofs.Sound.{whole, whole_is}
use Rattle.reading.proofs.Sound.{small, at_part}
use Rattle.records.proofs.LentBuffer.{Growing, grows_end, lends_put}

-- nothing was put into the buffer
pub went : {r r' : Reader} {p s : List ℕ} {used : ℕ} → sound r' ≡ true → used ≤ length s
    → Moves (reading_of r p) s (reading_of r' p) (drop used s) → Went r p s r' p used
went {p = p} a b m = record {
  still = a;
  within = b;
  reads = m.to;
  leaves = m.left;
  lends = ap (λ (x : Reading). over x.pieces p) m.to;
}

-- bytes were put behind the pieces
pub went_put : (r : Reader) (p s : List ℕ) (r' : Reader) (p' : List ℕ) (used : ℕ) → sound r' ≡ true → used ≤ length s
    → Moves (reading_of r p) s (reading_of r' p') (drop used s)
    → Growing (reading_of r' p') → r'.at ≤ length p' → drop r'.at p' ≡ drop r'.at p → Went r p s r' p' used
went_put r p s r' p' used a b m g l e = record {
  still = a;
  within = b;
  reads = m.to;
  leaves = m.left;
  lends = ap (λ (x : Reading). over x.pieces p) m.to
      ∙ lends_put (reading_of r' p') (drop used s) p p' r'.at g (length-take-le r'.at p' l) e;
}

pub some_used : {r r' : Reader} {p p' s : List ℕ} {used : ℕ} → 0 < used → Went r p s r' p' used → Turned r p s r' p' used
some_used h w = record { goes = w; stops = λ z. absurd (never z h) }
  where
    never : {n : ℕ} → n ≡ 0 → 0 < n → ⊥
    never a b = omega arith

-- behind a whole piece
pub sound_end : (r : Reader) (a : ℕ) (ps : List ℕ) → r.size ≤ longest_packet → length ps ≡ a → a ≤ longest_packet → a % 16 ≡ 0
    → sound (with r (piece_end r.size ps) a) ≡ true
sound_end r a ps h l f w =
    both (le-leb r.size longest_packet h)
    (by_test P (ltb (length ps) r.size) (λ _. whole a f w)
    (λ i. by_test P (are_zeros (drop r.size ps)) (λ _. both (le-leb r.size a (omega (arith, ltb-false (length ps) r.size i))) (whole a f w)) (λ _. whole a f w)))
  where
    P : Part → Type 0
    P q = sound_at q r.size a ≡ true

-- a piece ends within the buffer
pub piece_fits : (r : Reader) (n : ℕ) → r.part ≡ Piece n → sound r ≡ true → r.at + n ≤ longest_packet
piece_fits r n q ok = (whole_is (r.at + n) (and_right (leb 1 n) _ (at_part r ok (Piece n) q))).0

module _ (r : Reader) (p s : List ℕ) (n m : ℕ) (q : r.part ≡ Piece n) (ok : sound r ≡ true) (some : 0 < length s) (big : longest_packet ≤ length p)
    (mo : m ≡ min (min n (length s)) (length (mid_of r.at (length p - r.at) p))) where
  way : (leb 1 n && whole_pieces (r.at + n)) ≡ true
  way = at_part r ok (Piece n) q

  live : 1 ≤ n
  live = leb-true 1 n (and_left (leb 1 n) _ way)

  end_fits : (r.at + n ≤ longest_packet) × ((r.at + n) % 16 ≡ 0)
  end_fits = whole_is (r.at + n) (and_right (leb 1 n) _ way)

  mm : m ≡ min n (length s)
  mm =
      let b = end_fits in
      let room : length (mid_of r.at (length p - r.at) p) ≡ length p - r.at = length-take-le (length p - r.at) (drop r.at p) (omega (arith, length-drop r.at p)) in
      omega arith

  pub piece_room : (r.at + m ≤ length p) × (0 < m) × (m ≤ length s)
  piece_room = let a = live in let b = end_fits in let c = mm in (omega arith, omega arith, omega arith)

  module _ (ys p' : List ℕ) (fo : ys ≡ over (take m s) (mid_of r.at (length p - r.at) p)) (e : p' ≡ put_mid r.at (length p - r.at) p ys) where
    f : ys ≡ take (length (take m s)) (take m s) ++ drop (length (take m s)) (mid_of r.at (length p - r.at) p)
    f = fo ∙ ap (λ (x : List ℕ). x ++ drop (length (take m s)) (mid_of r.at (length p - r.at) p)) (sym (take_all (length (take m s)) (take m s) (omega arith)))

    count : length (take m s) ≡ m
    count = length-take-le m s piece_room.2

    pub piece_same : length p' ≡ length p
    piece_same = same p (take m s) ys p' r.at m piece_room.0 count f e

    all : take (r.at + m) p' ≡ take r.at p ++ take m s
    all = gathered p (take m s) ys p' r.at m piece_room.0 count f e

    rest : drop (r.at + m) p' ≡ drop (r.at + m) p
    rest = behind_stays p (take m s) ys p' r.at m piece_room.0 count f e

    begins : (x : Reading) (t : List ℕ) → Moves (in_piece (reading_of r p) n (take r.at p)) s x t → Moves (reading_of r p) s x t
    begins x t k = rw q k

    inside : r.at + m ≤ length p'
    inside = omega (arith, piece_same, piece_room.0)

    pub turn_part : m < n → (r' : Reader) → r' ≡ with r (Piece (n - m)) (r.at + m) → Turned r p s r' p' m
    turn_part h r' re =
        let b = end_fits in
        let c = mm in
        let w : r.at + m + (n - m) ≡ r.at + n = omega arith in
        rw re (some_used piece_room.1 (went_put r p s (with r (Piece (n - m)) (r.at + m)) p' m
        (both (le-leb r.size longest_packet (small r ok)) (both (le-leb 1 (n - m) (omega arith)) (rw w (whole (r.at + n) b.0 b.1))))
        piece_room.2
        (begins _ _ (rw all (piece_part (reading_of r p) n (take r.at p) s m piece_room.2 h)))
        refl
        inside
        rest))

    pub turn_end : n ≤ m → (d : Part) → d ≡ piece_end r.size (take (r.at + m) p') → (r' : Reader) → r' ≡ with r d (r.at + m) → Turned r p s r' p' m
    turn_end h d i r' re =
        let b = end_fits in
        let c = mm in
        let w : m ≡ n = omega arith in
        let x : (r.at + m) % 16 ≡ 0 = ap (λ (k : ℕ). (r.at + k) % 16) w ∙ b.1 in
        rw re (some_used piece_room.1 (went_put r p s (with r d (r.at + m)) p' m
        (rw i (sound_end r (r.at + m) (take (r.at + m) p') (small r ok) (length-take-le (r.at + m) p' inside) (omega arith) x))
        piece_room.2
        (begins _ _ (rw (i, all) (piece_end_lem (reading_of r p) n (take r.at p) s m piece_room.2 w live)))
        (rw i (grows_end (reading_of r p) (take (r.at + m) p')))
        inside
        rest))

module _ (r : Reader) (p s : List ℕ) (n : ℕ) (q : r.part ≡ Time n) (ok : sound r ≡ true) (some : 0 < length s) where
  abbrev m : ℕ
  m = min n (length s)

  time_way : (leb 1 n && whole_pieces r.at) ≡ true
  time_way = at_part r ok (Time n) q

  time_live : 1 ≤ n
  time_live = leb-true 1 n (and_left (leb 1 n) _ time_way)

  time_whole : whole_pieces r.at ≡ true
  time_whole = and_right (leb 1 n) _ time_way

  time_room : (0 < m) × (m ≤ length s)
  time_room = let a = time_live in (omega arith, omega arith)

  time_begins : (x : Reading) (t : List ℕ) → Moves (at (reading_of r p) (Time n)) s x t → Moves (reading_of r p) s x t
  time_begins x t k = rw q k

  time_on : m < n → Turned r p s (with r (Time (n - m)) r.at) p m
  time_on h =
      some_used time_room.0
      (went (both (le-leb r.size longest_packet (small r ok)) (both (le-leb 1 (n - m) (omega arith)) time_whole)) time_room.1
      (time_begins _ _ (time_part (reading_of r p) n s m time_room.1 h)))

  time_past : n ≤ m → Turned r p s (with r Kind r.at) p m
  time_past h =
      let w : m ≡ n = omega arith in
      some_used time_room.0
      (went (both (le-leb r.size longest_packet (small r ok)) time_whole) time_room.1
      (time_begins _ _ (time_end (reading_of r p) n s m time_room.1 w time_live)))

  pub turn_time : (r' : Reader) (used : ℕ) → r' ≡ time_of r n (min n (length s)) → used ≡ min n (length s) → Turned r p s r' p used
  turn_time r' used e f =
      rw (e, f) (by_test (λ (x : Part). Turned r p s (with r x r.at) p m) (ltb m n)
      (λ h. time_on (ltb-true m n h)) (λ h. time_past (ltb-false m n h)))
