-- What is left once some of what is due was given.
use Prim.Native.Nat.{ℕ, ◌≤◌}
use mathlib.Core.Path.{◌≡◌, ◌∙◌, refl, ap, sym}
use mathlib.Core.List.{List}
use mathlib.Core.Bool.{true}
use lib.ListN.{length}
use Rattle.base.specs.Arrays.{over}
use Rattle.journal_spec.specs.Contents.{longest_packet}
use Rattle.reading.specs.Reading.{reading_of}
use Rattle.receiver.specs.View.{receiver_of}
use Rattle.printing.specs.Fitting.{due_fitting}
use Rattle.due.specs.declared.Due.{Due}
use Rattle.due.specs.Due.{text_due, left_of}
use Rattle.due.proofs.Giving.{left_within, left_text}
use Rattle.standing.specs.Standing.{Standing, give_of, given_of}
use Rattle.standing.proofs.HowFar.{gives_rest}
use Rattle.journal.specs.declared.Transcript.{Transcript}
use Rattle.journal.specs.Ready.{standing_of, transcript_ready}
use Rattle.journal.proofs.Ready.{facts, holds}

-- the space y became y', with so many bytes given at its front
pub record Gives (s : Transcript) (p y : List ℕ) (s' : Transcript) (y' : List ℕ) (count : ℕ) : Type 0 where
  pub still : transcript_ready s' ≡ true
  pub stands : standing_of s' p ≡ give_of (standing_of s p) (length y)
  pub counts : count ≡ length (given_of (standing_of s p) (length y))
  pub bytes : y' ≡ over (given_of (standing_of s p) (length y)) y

abbrev pub gave : Transcript → Due → Transcript
gave s d = record { reader = s.reader; receiver = s.receiver; counts = s.counts; left = s.left; due = d }

-- what is given, by its marks and its text
given_by : (c : Standing) (n : ℕ) → due_fitting c.marks c.text n ≡ given_of c n
unfolding given_of
given_by c n = refl

module _ (s : Transcript) (p x : List ℕ) (ok : transcript_ready s ≡ true) (long : longest_packet ≤ length p) where
  pub gives : (d : Due) (count : ℕ) (x' : List ℕ) → d ≡ left_of s.due p (length x) → count ≡ length (due_fitting s.due.marks (text_due s.due p) (length x))
      → x' ≡ over (due_fitting s.due.marks (text_due s.due p) (length x)) x → Gives s p x (gave s d) x' count
  gives d count x' e f g =
      let r = facts s ok in
      let by = given_by (standing_of s p) (length x) in
      let w = left_of s.due p (length x) in
      record {
        still = rw e (holds (gave s w) record { inside = left_within s.due p r.inside long (length x); fit = r.fit; reader = r.reader });
        stands = ap (λ (y : Due). standing_of (gave s y) p) e
            ∙ (λ i. record { reading = reading_of s.reader p; receiver = receiver_of s.receiver; counts = s.counts; left = s.left; marks = w.marks; text = left_text s.due p r.inside long (length x) i })
            ∙ sym (gives_rest (standing_of s p) (length x));
        counts = f ∙ ap length by;
        bytes = g ∙ ap (λ (l : List ℕ). over l x) by;
      }
