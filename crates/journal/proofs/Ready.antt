-- Ready transcripts, by plain facts: where they stand, and what each call leaves.
use Prim.Native.Nat.{ℕ, ◌≤◌}
use mathlib.Core.Path.{◌≡◌, ◌∙◌, refl, ap, sym, subst}
use mathlib.Core.List.{List}
use mathlib.Core.Bool.{Bool, true, false, ◌&&◌, not}
use borrow.Author.Tests.{leb-true, le-leb}
use lib.Dec.{leb}
use lib.ListN.{length}
use Rattle.journal_spec.specs.Contents.{limit, longest_packet}
use Rattle.parts.specs.Bytes.{going}
use Rattle.reading.specs.Reading as Reading
use Rattle.reading.specs.Reading.{sound}
use Rattle.base.proofs.Tests.{both, and_left, and_right, and_false}
use Rattle.counts.specs.Counts.{counts_fit}
use Rattle.counts.proofs.Fits.{none_fit}
use Rattle.due.specs.Due.{due_within}
use Rattle.due.proofs.Arising.{none_text, none_is}
use Rattle.standing.specs.Standing.{start_standing, hungry, finished}
use Rattle.journal.specs.declared.Transcript.{Transcript}
use Rattle.journal.specs.Ready.{first, standing_of, transcript_ready, ready_with, hungry_now, Fills, FillsIf, Filling, Stops, StopsIf, Stopping, done}

pub record Ready (s : Transcript) : Type 0 where
  pub inside : due_within s.due ≡ true
  pub fit : counts_fit s.counts s.left ≡ true
  pub reader : sound s.reader ≡ true

module _ (s : Transcript) where
  pub facts : transcript_ready s ≡ true → Ready s
  facts h =
      let a = due_within s.due in
      let b = counts_fit s.counts s.left in
      let ab = and_left (a && b) (sound s.reader) h in
      record { inside = and_left a b ab; fit = and_right a b ab; reader = and_right (a && b) (sound s.reader) h }

  pub holds : Ready s → transcript_ready s ≡ true
  holds r = both (both r.inside r.fit) r.reader

  pub long_enough : (n : ℕ) → ready_with s n ≡ true → longest_packet ≤ n
  long_enough n h = leb-true longest_packet n (and_left (leb longest_packet n) (transcript_ready s) h)

  pub is_ready : (n : ℕ) → ready_with s n ≡ true → transcript_ready s ≡ true
  is_ready n h = and_right (leb longest_packet n) (transcript_ready s) h

  pub with_buffer : (n : ℕ) → longest_packet ≤ n → transcript_ready s ≡ true → ready_with s n ≡ true
  with_buffer n l h = both (le-leb longest_packet n l) h

  -- the tests, in their order
  module _ (n : ℕ) where
    pub not_within : due_within s.due ≡ false → false ≡ ready_with s n
    not_within e = sym (and_false (leb longest_packet n)) ∙ sym (λ i. leb longest_packet n && (e i && counts_fit s.counts s.left && sound s.reader))

    pub not_fit : due_within s.due ≡ true → counts_fit s.counts s.left ≡ false → false ≡ ready_with s n
    not_fit e f = sym (and_false (leb longest_packet n)) ∙ sym (λ i. leb longest_packet n && (e i && f i && sound s.reader))

    pub by_reader : due_within s.due ≡ true → counts_fit s.counts s.left ≡ true → (r : Bool) → r ≡ Reading.reader_ready s.reader n → r ≡ ready_with s n
    by_reader e f r g = g ∙ sym (λ i. leb longest_packet n && (e i && f i && sound s.reader))

-- a ready call, lent a buffer that is long enough
module _ (s : Transcript) (p : List ℕ) (ok : transcript_ready s ≡ true) (long : longest_packet ≤ length p) where
  pub does_fill : (x y : List ℕ) (s' : Transcript) (p' y' : List ℕ) (used count : ℕ) → Filling s p x y s' p' y' used count → Fills s p x y s' p' y' used count
  does_fill x y s' p' y' used count t = subst (λ (b : Bool). FillsIf b s p x y s' p' y' used count) (with_buffer s (length p) long ok) t

  pub does_stop : (s' : Transcript) (p' : List ℕ) → Stopping s p s' p' → Stops s p s' p'
  does_stop s' p' t = subst (λ (b : Bool). StopsIf b s p s' p') (with_buffer s (length p) long ok) t

  -- what `is_hungry` and `is_done` say is so of the standing
  pub hungry_is : hungry_now s ≡ hungry (standing_of s p)
  hungry_is = ap (λ (b : Bool). going s.reader.part && b) (none_is s.due p (facts s ok).inside long)

  pub done_is : done s ≡ finished (standing_of s p)
  done_is = ap (λ (b : Bool). not (going s.reader.part) && b) (none_is s.due p (facts s ok).inside long)

-- a call, by its test
module _ (s : Transcript) (p : List ℕ) where
  pub ready_fills : (x y : List ℕ) (s' : Transcript) (p' y' : List ℕ) (used count : ℕ) → ready_with s (length p) ≡ true → Fills s p x y s' p' y' used count → Filling s p x y s' p' y' used count
  ready_fills x y s' p' y' used count h t = subst (λ (b : Bool). FillsIf b s p x y s' p' y' used count) (sym h) t

  pub unready_fills : (x y : List ℕ) → ready_with s (length p) ≡ false → Filling s p x y s p y 0 0
  unready_fills x y h =
      subst (λ (b : Bool). FillsIf b s p x y s p y 0 0) (sym h) (record { transcript = refl; lent = refl; none = refl }, record { transcript = refl; lent = refl; none = refl })

  pub ready_stops : (s' : Transcript) (p' : List ℕ) → ready_with s (length p) ≡ true → Stops s p s' p' → Stopping s p s' p'
  ready_stops s' p' h t = subst (λ (b : Bool). StopsIf b s p s' p') (sym h) t

  pub unready_stops : ready_with s (length p) ≡ false → Stopping s p s p
  unready_stops h = subst (λ (b : Bool). StopsIf b s p s p) (sym h) (record { transcript = refl; lent = refl; none = refl })

-- a started transcript is ready, and stands at the start whatever the buffer holds
pub starts_ready : transcript_ready first ≡ true
starts_ready = holds first record { inside = refl; fit = none_fit; reader = refl }

pub starts : (p : List ℕ) → standing_of first p ≡ start_standing
starts p = ap (λ (t : List ℕ). record { reading = start_standing.reading; receiver = start_standing.receiver; counts = start_standing.counts; left = limit; marks = 0; text = t }) (none_text p)
