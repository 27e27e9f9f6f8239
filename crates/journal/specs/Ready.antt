-- A transcript and the buffer lent with it, as a standing; and what each call answers.
use Rattle.std.specs.Prelude.{ℕ, ◌≡◌, List, Bool, true, false, ◌&&◌, not, leb, length}
use Rattle.base.specs.Arrays.{over}
use Rattle.receiver.specs.declared.Receiver.{Receiver}
use Rattle.receiver.specs.View.{receiver_of}
use Rattle.journal_spec.specs.Contents.{limit, longest_packet}
use Rattle.parts.specs.Bytes.{going}
use Rattle.reading.specs.Reading.{reading_of, sound}
use Rattle.reading.specs.Reading as Reading
use Rattle.counts.specs.Counts.{no_counts, counts_fit}
use Rattle.due.specs.Due.{empty_due, none_due, due_within, text_due}
use Rattle.standing.specs.Standing.{Standing, take_of, used_of, stop_of}
use Rattle.standing.specs.Filling.{fill_of}
use Rattle.journal.specs.declared.Transcript.{Transcript}

-- no receiver is open yet
abbrev pub no_receiver : Receiver
no_receiver = record { t140 = 0; red = 0; has_source = false; has_kept = false; source = 0; expected = 0; kept = 0 }

-- before the first byte
abbrev pub first : Transcript
first = record { reader = Reading.start_reader; receiver = no_receiver; counts = no_counts; left = limit; due = empty_due }

-- the pieces of a packet and the text due lie in the lent buffer
abbrev pub standing_of : Transcript → List ℕ → Standing
standing_of s p = record {
  reading = reading_of s.reader p;
  receiver = receiver_of s.receiver;
  counts = s.counts;
  left = s.left;
  marks = s.due.marks;
  text = text_due s.due p;
}

-- a transcript from which calls can go on: such are `first` and, again, those that calls leave
abbrev pub transcript_ready : Transcript → Bool
transcript_ready s = due_within s.due && counts_fit s.counts s.left && sound s.reader

-- it is lent a buffer of so many bytes
abbrev pub ready_with : Transcript → ℕ → Bool
ready_with s space = leb longest_packet space && transcript_ready s

-- reading goes on, and nothing is due
abbrev pub hungry_now : Transcript → Bool
hungry_now s = going s.reader.part && none_due s.due

-- nothing is done: the transcript and the lent bytes stay, and the number is 0
pub record TranscriptStays (s : Transcript) (l : List ℕ) (s' : Transcript) (l' : List ℕ) (n : ℕ) : Type 0 where
  pub transcript : s' ≡ s
  pub lent : l' ≡ l
  pub none : n ≡ 0

-- With the lent p, so many bytes of x were taken. Of p' only what the standing holds is told, the pieces and the text due; its
-- other bytes, and where in it the text lies, are left open, here, for `fill` and for `stop`.
pub record Takes (s : Transcript) (p x : List ℕ) (s' : Transcript) (p' : List ℕ) (used : ℕ) : Type 0 where
  pub still : transcript_ready s' ≡ true
  pub stands : standing_of s' p' ≡ take_of (standing_of s p) x
  pub uses : used ≡ used_of (standing_of s p) x

-- with the lent p, so many bytes of x were used, and so many given at the front of y
pub record Fills (s : Transcript) (p x y : List ℕ) (s' : Transcript) (p' y' : List ℕ) (used count : ℕ) : Type 0 where
  pub still : transcript_ready s' ≡ true
  pub stands : standing_of s' p' ≡ (fill_of (standing_of s p) x (length y)).standing
  pub uses : used ≡ (fill_of (standing_of s p) x (length y)).used
  pub counts : count ≡ length (fill_of (standing_of s p) x (length y)).given
  pub bytes : y' ≡ over (fill_of (standing_of s p) x (length y)).given y

abbrev pub FillsIf : Bool → Transcript → List ℕ → List ℕ → List ℕ → Transcript → List ℕ → List ℕ → ℕ → ℕ → Type 0
FillsIf true s p x y s' p' y' used count = Fills s p x y s' p' y' used count
FillsIf false s p x y s' p' y' used count = TranscriptStays s p s' p' used × TranscriptStays s y s' y' count

-- what `fill` answers
abbrev pub Filling : Transcript → List ℕ → List ℕ → List ℕ → Transcript → List ℕ → List ℕ → ℕ → ℕ → Type 0
Filling s p x y s' p' y' used count = FillsIf (ready_with s (length p)) s p x y s' p' y' used count

pub record Stops (s : Transcript) (p : List ℕ) (s' : Transcript) (p' : List ℕ) : Type 0 where
  pub still : transcript_ready s' ≡ true
  pub stands : standing_of s' p' ≡ stop_of (standing_of s p)

abbrev pub StopsIf : Bool → Transcript → List ℕ → Transcript → List ℕ → Type 0
StopsIf true s p s' p' = Stops s p s' p'
StopsIf false s p s' p' = TranscriptStays s p s' p' 0

-- what `stop` answers
abbrev pub Stopping : Transcript → List ℕ → Transcript → List ℕ → Type 0
Stopping s p s' p' = StopsIf (ready_with s (length p)) s p s' p'

-- what `is_done` answers, of a transcript by itself; `proofs/Ready` shows that its standing says the same
abbrev pub done : Transcript → Bool
done s = not (going s.reader.part) && none_due s.due
