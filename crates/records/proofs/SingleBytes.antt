-- A turn of the reader over one byte, outside pieces and times.
use Prim.Native.Nat.{ℕ, ◌+◌, ◌*◌, ◌%◌, ◌<◌, ◌≤◌}
use mathlib.Core.Path.{◌≡◌, ◌∙◌, refl, ap, sym}
use mathlib.Core.List.{List, []}
use mathlib.Core.Bool.{Bool, true, false, cond}
use native.Mathlib.Omega.{arith}
use borrow.Author.Tests.{ltb-true, ltb-false, le-leb, eqb-true}
use lib.Dec.{ltb, eqb}
use lib.ListN.{length, get_or, take}
use lib.Seq.{length-take-le}
use Rattle.packet_spec.specs.Header.{types_bad}
use Rattle.base.proofs.Tests.{by_test, both}
use Rattle.parts.specs.declared.Part.{Part}
use Rattle.parts.specs.declared.Part.TheVariants.{Kind, Types, Red, Length, Low, Piece, Time, Opened, Packet, Ended, Broken}
use Rattle.reading.specs.declared.Reader.{Reader}
use Rattle.journal_spec.specs.Contents.{longest_packet}
use Rattle.parts.specs.Bytes.{going, byte_at, at, kind_of, record_begun}
use Rattle.reading.specs.Reading.{reading_of, with, broken, sound}
use Rattle.reading.specs.Internal.Bytes.{begun_by, kind_by, byte_of}
use Rattle.reading.specs.Internal.Bytes as Readers
use Rattle.records.specs.Internal.Turns.{Turned}
use Rattle.parts.proofs.Laws.{stays, first}
use Rattle.parts.specs.Sound.{whole_pieces, sound_at}
use Rattle.parts.proofs.Sound.{whole, whole_is}
use Rattle.reading.proofs.Sound.{small, at_part}
use Rattle.records.proofs.Turns.{went, some_used}

-- parts at which a byte is one of an open's types or of a length, or reading has stopped
abbrev pub Single : Part → Type 0
Single Kind = ⊥
Single Types = Unit {0}
Single (Red t140) = Unit {0}
Single Length = Unit {0}
Single (Low high) = Unit {0}
Single (Piece n) = ⊥
Single (Time n) = ⊥
Single (Opened t140 red) = Unit {0}
Single Packet = Unit {0}
Single Ended = Unit {0}
Single Broken = Unit {0}

-- a byte outside pieces and times
module _ (r : Reader) (p s : List ℕ) (ok : sound r ≡ true) (some : 0 < length s) (big : longest_packet ≤ length p) where
  by_byte : (q : Part) → r.part ≡ q → going q ≡ true → (r' : Reader) → sound r' ≡ true
      → byte_at q (reading_of r p) (get_or s 0 0) ≡ reading_of r' p → Turned r p s r' p 1
  by_byte q e g r' w b =
      some_used (omega arith)
      (went w (omega arith)
      (rw (ap (λ (x : Part). byte_at x (reading_of r p) (get_or s 0 0)) e ∙ b) at (first (reading_of r p) s some (ap going e ∙ g))))

  sized : (x : Part) (a : ℕ) → sound_at x r.size a ≡ true → sound (with r x a) ≡ true
  sized x a h = both (le-leb r.size longest_packet (small r ok)) h

  turn_kind : r.part ≡ Kind → (q : Part) → q ≡ kind_of r.opened (ltb r.at r.size) (get_or s 0 0) → Turned r p s (with r q r.at) p 1
  turn_kind e q i =
      let w : whole_pieces r.at ≡ true = at_part r ok Kind e in
      let f = whole_is r.at w in
      let l : length (take r.at p) ≡ r.at = length-take-le r.at p (omega arith) in
      rw i (by_byte Kind e refl (with r (kind_of r.opened (ltb r.at r.size) (get_or s 0 0)) r.at)
      (sized (kind_of r.opened (ltb r.at r.size) (get_or s 0 0)) r.at
      (by_test P (ltb r.at r.size)
      (λ h. by_test P (eqb (get_or s 0 0) 3) (λ _. more f.0 f.1 (small r ok) (ltb-true r.at r.size h)) (λ _. w))
      (λ _. by_test P (eqb (get_or s 0 0) 4) (λ _. w)
      (λ _. by_test P r.opened
      (λ _. by_test P (eqb (get_or s 0 0) 2) (λ _. w) (λ _. by_test P (eqb (get_or s 0 0) 0) (λ _. w) (λ _. w)))
      (λ _. by_test P (eqb (get_or s 0 0) 1) (λ _. w) (λ _. w))))))
      (rw l))
    where
      P : Part → Type 0
      P x = sound_at x r.size r.at ≡ true

      more : r.at ≤ longest_packet → r.at % 16 ≡ 0 → r.size ≤ longest_packet → r.at < r.size → P (Piece 16)
      more a b c d = whole (r.at + 16) (omega arith) (omega arith)

  turn_length : r.part ≡ Length → Turned r p s (with r (Low (get_or s 0 0)) r.at) p 1
  turn_length e = by_byte Length e refl _ (sized (Low (get_or s 0 0)) r.at (at_part r ok Length e)) refl

  turn_types : r.part ≡ Types → Turned r p s (with r (Red (get_or s 0 0)) r.at) p 1
  turn_types e = by_byte Types e refl _ (sized (Red (get_or s 0 0)) r.at (at_part r ok Types e)) refl

  turn_red : (a : ℕ) → r.part ≡ Red a → (d : Part) → d ≡ cond (types_bad a (get_or s 0 0)) Broken (Opened a (get_or s 0 0)) → Turned r p s (with r d r.at) p 1
  turn_red a e d i =
      let x : whole_pieces r.at ≡ true = at_part r ok (Red a) e in
      let v = get_or s 0 0 in
      rw i (by_byte (Red a) e refl (with r (cond (types_bad a v) Broken (Opened a v)) r.at)
      (sized (cond (types_bad a v) Broken (Opened a v)) r.at (by_test P (types_bad a v) (λ _. x) (λ _. x)))
      refl)
    where
      P : Part → Type 0
      P x = sound_at x r.size r.at ≡ true

  pub sound_begun : (n : ℕ) → whole_pieces r.at ≡ true → sound (begun_by r n) ≡ true
  sound_begun n w =
      by_test Q (ltb longest_packet n) (λ _. sized Broken r.at w)
      (λ h. both (le-leb n longest_packet (ltb-false longest_packet n h))
      (by_test P (eqb n 0) (λ z. both (le-leb n 0 (omega (arith, eqb-true n 0 z))) refl) (λ _. refl)))
    where
      Q : Reader → Type 0
      Q x = sound x ≡ true

      P : Part → Type 0
      P x = sound_at x n 0 ≡ true

  pub begun_is : (n : ℕ) → record_begun (reading_of r p) n ≡ reading_of (begun_by r n) p
  begun_is n = go (ltb longest_packet n)
    where
      go : (b : Bool) → cond b (at (reading_of r p) Broken) (record { opened = r.opened; part = cond (eqb n 0) Packet Kind; size = n; pieces = [] })
          ≡ reading_of (cond b (broken r) (record { opened = r.opened; part = cond (eqb n 0) Packet Kind; size = n; at = 0 })) p
      go true = refl
      go false = refl

  turn_low : (a n : ℕ) → r.part ≡ Low a → n ≡ a * 256 + get_or s 0 0 → (d : Reader) → d ≡ begun_by r n → Turned r p s d p 1
  turn_low a n e k d i =
      rw i (by_byte (Low a) e refl (begun_by r n) (sound_begun n (at_part r ok (Low a) e))
      (ap (record_begun (reading_of r p)) (sym k) ∙ begun_is n))

  turn_none : going r.part ≡ false → Turned r p s r p 0
  turn_none h = record { goes = went ok (omega arith) stays; stops = λ _. h }

  abbrev v : ℕ
  v = get_or s 0 0

  pub turn_kind_byte : r.part ≡ Kind → (r' : Reader) → r' ≡ kind_by r v → Turned r p s r' p 1
  turn_kind_byte e r' re = rw re (turn_kind e _ refl)

  by_part : (q : Part) → r.part ≡ q → Single q → Turned r p s (Readers.reader_byte q r v) p (cond (going q) 1 0)
  by_part Kind e h = absurd h
  by_part Types e h = turn_types e
  by_part (Red a) e h = turn_red a e _ refl
  by_part Length e h = turn_length e
  by_part (Low a) e h = turn_low a (a * 256 + v) e refl _ refl
  by_part (Piece n) e h = absurd h
  by_part (Time n) e h = absurd h
  by_part (Opened a b) e h = turn_none (ap going e)
  by_part Packet e h = turn_none (ap going e)
  by_part Ended e h = turn_none (ap going e)
  by_part Broken e h = turn_none (ap going e)

  pub turn_byte : (q : Part) → r.part ≡ q → Single q → (r' : Reader) (n : ℕ) → r' ≡ byte_of r v → n ≡ cond (going r.part) 1 0 → Turned r p s r' p n
  turn_byte q e h r' n re ne =
      rw (re ∙ ap (λ (x : Part). Readers.reader_byte x r v) e, ne ∙ ap (λ (x : Part). cond (going x) 1 0) e) (by_part q e h)

pub single : (q : Part) → (q ≡ Kind → ⊥) → ((n : ℕ) → q ≡ Piece n → ⊥) → ((n : ℕ) → q ≡ Time n → ⊥) → Single q
single Kind k p t = absurd (k refl)
single Types k p t = tt
single (Red t140) k p t = tt
single Length k p t = tt
single (Low high) k p t = tt
single (Piece n) k p t = absurd (p n refl)
single (Time n) k p t = absurd (t n refl)
single (Opened t140 red) k p t = tt
single Packet k p t = tt
single Ended k p t = tt
single Broken k p t = tt
