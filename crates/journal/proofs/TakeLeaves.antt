-- What `take` leaves.
use Prim.Native.Nat.{ℕ, ◌-◌, ◌≤◌, min}
use mathlib.Core.Path.{◌≡◌, ◌∙◌, ap, sym, subst}
use mathlib.Core.List.{List}
use mathlib.Core.Bool.{Bool, true, false, cond}
use native.Mathlib.Omega.{arith}
use borrow.Author.Tests.{le-leb}
use lib.ListN.{length, take, length-take, length-drop}
use Rattle.base.proofs.Fronts.{take_min}
use Rattle.base.proofs.Tests.{both}
use Rattle.journal_spec.specs.Contents.{longest_packet}
use Rattle.parts.specs.declared.Part.TheVariants.{Packet}
use Rattle.parts.specs.Bytes.{Reading, read_to, unread, going}
use Rattle.reading.specs.declared.Reader.{Reader}
use Rattle.reading.specs.Reading.{reading_of}
use Rattle.records.specs.Internal.Reading.{ReadAll, ReadIf, RecordsRead}
use Rattle.receiver.specs.View.{receiver_of}
use Rattle.counts.specs.Counts.{OneMore}
use Rattle.counts.proofs.Fits.{fit_behind, one_more}
use Rattle.due.specs.declared.Due.{Due}
use Rattle.due.specs.Due.{empty_due, due_within, text_due}
use Rattle.due.proofs.Arising.{none_text, line_within}
use Rattle.standing.specs.Standing.{settled, read_on, hungry, used_of, take_of}
use Rattle.standing.proofs.Unread.{stopped_less, goes_on}
use Rattle.journal.specs.declared.Transcript.{Transcript}
use Rattle.journal.specs.Ready.{standing_of, transcript_ready, Takes}
use Rattle.journal.proofs.Ready.{facts, holds}

-- a call of the reader took used bytes of x
module _ (s : Transcript) (p x : List ℕ) (ok : transcript_ready s ≡ true) (long : longest_packet ≤ length p) (n : ℕ) (ne : n ≡ min (length x) s.left) (r' : Reader)
    (p' : List ℕ) (used : ℕ) (rd : RecordsRead s.reader p (take n x) r' p' used) where
  front : take n x ≡ take s.left x
  front = ap (λ (k : ℕ). take k x) ne ∙ take_min x s.left

  all : ReadAll s.reader p (take s.left x) r' p' used
  all =
      subst (λ (l : List ℕ). ReadAll s.reader p l r' p' used) front
      (subst (λ (b : Bool). ReadIf b s.reader p (take n x) r' p' used) (both (le-leb longest_packet (length p) long) (facts s ok).reader) rd)

  pub used_fits : used ≤ s.left
  used_fits = let i = all.within in omega (arith, length-take s.left x)

  remain : length (take s.left x) - used ≡ length (unread (reading_of s.reader p) (take s.left x))
  remain = sym (length-drop used (take s.left x)) ∙ ap length all.leaves

  module _ (h : hungry (standing_of s p) ≡ true) (d : Due) (de : d ≡ empty_due) where
    used_is : used ≡ used_of (standing_of s p) x
    unfolding used_of
    used_is = let l = remain in let i = all.within in rw h (omega arith)

    abbrev pub behind : Transcript
    behind = record { reader = r'; receiver = s.receiver; counts = s.counts; left = s.left - used; due = d }

    take_is : settled (standing_of behind p') ≡ take_of (standing_of s p) x
    unfolding take_of
    take_is =
        sym (ap (λ (t : Bool). cond t (settled (read_on (standing_of s p) (read_to (reading_of s.reader p) (take s.left x)) (s.left - used_of (standing_of s p) x))) (standing_of s p)) h
        ∙ (λ i. settled (record {
          reading = sym all.reads i;
          receiver = receiver_of s.receiver;
          counts = s.counts;
          left = s.left - sym used_is i;
          marks = (sym de i).marks;
          text = sym (ap (λ (y : Due). text_due y p') de ∙ none_text p') i;
        })))

    pub behind_ready : transcript_ready behind ≡ true
    behind_ready =
        holds behind
        record { inside = ap due_within de ∙ line_within 0 (omega arith); fit = fit_behind s.counts s.left used (facts s ok).fit used_fits; reader = all.still }

    -- a packet takes a byte of the journal at least
    pub behind_more : r'.part ≡ Packet → OneMore s.counts (s.left - used)
    behind_more e =
        let g : going (read_to (reading_of s.reader p) (take s.left x)).part ≡ false =
        ap (λ (w : Reading). going w.part) (sym all.reads) ∙ ap going e in
        let l = stopped_less (reading_of s.reader p) (take s.left x) (goes_on (standing_of s p) h) g in
        let m = remain in
        one_more s.counts s.left used (facts s ok).fit used_fits (omega arith)

    pub takes : (s' : Transcript) (p'' : List ℕ) → transcript_ready s' ≡ true → standing_of s' p'' ≡ settled (standing_of behind p') → Takes s p x s' p'' used
    takes s' p'' w e = record { still = w; stands = e ∙ take_is; uses = used_is }
