-- The turns of a reader, one after the other.
use Prim.Native.Nat.{ℕ, ◌+◌, ◌-◌, ◌<◌, ◌≤◌}
use mathlib.Core.Path.{◌≡◌, ◌∙◌, refl, ap, sym}
use mathlib.Core.List.{List, [], ◌∷◌, ◌++◌}
use mathlib.Core.Bool.{Bool, true, false}
use native.Mathlib.Omega.{arith}
use lib.ListN.{length, take, drop, drop_of_length-le, length-drop}
use lib.Seq.{drop-drop, length-take-le, take-take}
use Rattle.std.proofs.lemmas.List.{take-append-le, drop-append-le, take-append-drop}
use Rattle.journal_spec.specs.Contents.{longest_packet}
use Rattle.base.specs.Arrays.{over}
use Rattle.reading.specs.declared.Reader.{Reader}
use Rattle.parts.specs.Bytes.{Reading, read_to, unread, going}
use Rattle.reading.specs.Reading.{reading_of, sound, reader_ready}
use Rattle.records.specs.Internal.Reading.{ReadAll, RecordsRead}
use Rattle.records.specs.Internal.Turns.{Went, Turned, lent_after}
use borrow.Author.Tests.{leb-true, le-leb, lt-leb}
use lib.Dec.{leb}
use Rattle.base.proofs.Tests.{and_left, and_right}
use Rattle.reading.proofs.Sound.{fits}
use Rattle.base.proofs.Slices.{mid_rest}
use Rattle.records.proofs.LentBuffer.{lends_all}

pub gone : (r : Reader) (p s : List ℕ) → sound r ≡ true → Went r p s r p 0
gone r p s ok = record { still = ok; within = omega arith; reads = refl; leaves = refl; lends = refl }

-- reading is over in s
abbrev Over : Reading → List ℕ → Type 0
Over r s = (read_to r s ≡ r) × (unread r s ≡ s)

over_stop : (r : Reading) (s : List ℕ) → going r.part ≡ false → Over r s
unfolding read_to unread
over_stop r [] h = (refl, refl)
over_stop r (b ∷ bs) h = (simp h, simp h)

over_end : (r : Reading) (s : List ℕ) → s ≡ [] → Over r s
unfolding read_to unread
over_end r s e = (ap (read_to r) e, ap (unread r) e ∙ sym e)

module _ (r₀ : Reader) (p₀ s : List ℕ) (r : Reader) (p : List ℕ) (i : ℕ) (w : Went r₀ p₀ s r p i) where
  module _ (r' : Reader) (p' : List ℕ) (n : ℕ) (t : Went r p (take (length s - i) (drop i s)) r' p' n) where
    next : Went r p (drop i s) r' p' n
    next = rw (mid_rest i s) at t

    pub went_on : Went r₀ p₀ s r' p' (i + n)
    went_on = record {
      still = next.still;
      within = omega (arith, next.within, w.within, length-drop i s);
      reads = w.reads ∙ next.reads ∙ ap (read_to (reading_of r' p')) (drop-drop n i s);
      leaves = w.leaves ∙ next.leaves ∙ ap (unread (reading_of r' p')) (drop-drop n i s);
      lends = w.lends ∙ next.lends ∙ ap (λ (l : List ℕ). lent_after (reading_of r' p') l p') (drop-drop n i s);
    }

  -- what is left is not read
  all_read : longest_packet ≤ length p → Over (reading_of r p) (drop i s) → ReadAll r₀ p₀ s r p i
  all_read big o = record {
    still = w.still;
    within = w.within;
    reads = sym (w.reads ∙ o.0);
    leaves = sym (w.leaves ∙ o.1);
    keeps = lends_all r.at (take r.at p) p p₀ (length-take-le r.at p (omega (arith, fits r w.still)))
        (ap (λ (x : Reading). over x.pieces p₀) (sym (w.reads ∙ o.0)) ∙ w.lends ∙ ap (λ (x : Reading). over x.pieces p) o.0);
  }

  pub at_end : longest_packet ≤ length p → length s ≤ i → ReadAll r₀ p₀ s r p i
  at_end big h = all_read big (over_end (reading_of r p) (drop i s) (drop_of_length-le s h))

  pub at_stop : longest_packet ≤ length p → going r.part ≡ false → ReadAll r₀ p₀ s r p i
  at_stop big h = all_read big (over_stop (reading_of r p) (drop i s) h)

  -- and the rest is read from there
  module _ (r' : Reader) (p' : List ℕ) (n : ℕ) (t : ReadAll r p (take (length s - i) (drop i s)) r' p' n) (big : longest_packet ≤ length p') where
    rest : ReadAll r p (drop i s) r' p' n
    rest = rw (mid_rest i s) at t

    whole : read_to (reading_of r₀ p₀) s ≡ reading_of r' p'
    whole = w.reads ∙ sym rest.reads

    pub read_rest : ReadAll r₀ p₀ s r' p' (i + n)
    read_rest = record {
      still = rest.still;
      within = omega (arith, rest.within, w.within, length-drop i s);
      reads = sym whole;
      leaves = sym (drop-drop n i s) ∙ rest.leaves ∙ sym w.leaves;
      keeps = rest.keeps ∙ lends_all r'.at (take r'.at p') p p₀ (length-take-le r'.at p' (omega (arith, fits r' rest.still)))
          (ap (λ (x : Reading). over x.pieces p₀) (sym whole) ∙ w.lends ∙ ap (λ (x : Reading). over x.pieces p) (sym rest.reads));
    }

-- the last turn used nothing
pub turn_last : (r₀ : Reader) (p₀ s : List ℕ) (r : Reader) (p : List ℕ) (i : ℕ) → Went r₀ p₀ s r p i
    → (r' : Reader) (p' : List ℕ) (n : ℕ) → Turned r p (take (length s - i) (drop i s)) r' p' n → longest_packet ≤ length p' → n ≡ 0 → ReadAll r₀ p₀ s r' p' i
turn_last r₀ p₀ s r p i w r' p' n t big z =
    let e : i + n ≡ i = omega arith in
    at_stop r₀ p₀ s r' p' i (rw e at (went_on r₀ p₀ s r p i w r' p' n t.goes)) big (t.stops z)

pub ready_is : (r : Reader) (n : ℕ) (b : Bool) → b ≡ reader_ready r n → b ≡ true → (sound r ≡ true) × (longest_packet ≤ n)
ready_is r n b e h = let w = sym e ∙ h in (and_right (leb longest_packet n) _ w, leb-true longest_packet n (and_left (leb longest_packet n) _ w))

module _ (r : Reader) (p s : List ℕ) (b : Bool) (e : b ≡ reader_ready r (length p)) where
  pub read_on_lem : b ≡ true → (r' : Reader) (p' : List ℕ) (used : ℕ) → ReadAll r p s r' p' used → RecordsRead r p s r' p' used
  read_on_lem h r' p' used w = rw (sym e ∙ h) w

  pub read_not : b ≡ false → RecordsRead r p s r p 0
  read_not h = rw (sym e ∙ h) (record { reader = refl; packet = refl; none = refl })

-- all was read with the front of p, and the rest of p stays
module _ (r : Reader) (p s : List ℕ) (long : longest_packet ≤ length p) (ok : sound r ≡ true) (front : List ℕ) (fe : front ≡ take longest_packet p)
    (r' : Reader) (front' : List ℕ) (same : length front' ≡ longest_packet) (used : ℕ) (t : ReadAll r front s r' front' used) where
  abbrev behind : List ℕ
  behind = drop longest_packet p

  abbrev told : Reader → List ℕ → Reading
  told x l = record { opened = x.opened; part = x.part; size = x.size; pieces = l }

  before : reading_of r front ≡ reading_of r p
  before = ap (told r) (ap (take r.at) fe ∙ take-take r.at longest_packet p (fits r ok))

  there : r'.at ≤ length front'
  there = omega (arith, same, fits r' t.still)

  after : reading_of r' (front' ++ behind) ≡ reading_of r' front'
  after = ap (told r') (take-append-le r'.at front' behind there)

  stays : drop r'.at (front' ++ behind) ≡ drop r'.at p
  stays =
      let l : length (take longest_packet p) ≡ longest_packet = length-take-le longest_packet p long in
      drop-append-le r'.at front' behind there ∙ ap (λ (x : List ℕ). x ++ behind) (t.keeps ∙ ap (drop r'.at) fe)
      ∙ sym (drop-append-le r'.at (take longest_packet p) behind (omega (arith, fits r' t.still))) ∙ ap (drop r'.at) (take-append-drop longest_packet p)

  pub read_front : RecordsRead r p s r' (front' ++ behind) used
  read_front = rw (le-leb longest_packet (length p) long, ok) (record {
    still = t.still;
    within = t.within;
    reads = after ∙ t.reads ∙ ap (λ (x : Reading). read_to x s) before;
    leaves = t.leaves ∙ ap (λ (x : Reading). unread x s) before;
    keeps = stays;
  })

-- nothing is done where p is short
pub too_short : (r : Reader) (p s : List ℕ) → length p < longest_packet → RecordsRead r p s r p 0
too_short r p s h = rw (lt-leb longest_packet (length p) h) (record { reader = refl; packet = refl; none = refl })
