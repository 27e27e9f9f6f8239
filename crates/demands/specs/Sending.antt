-- Lists of offers and clock calls on one sender, and what they write (01, "The lists of demand 3").
use Rattle.std.specs.Prelude.{ℕ, zero, suc, List, [], ◌∷◌, ◌++◌, take}
use Rattle.packet_spec.specs.Reading.{Content}
use Rattle.sender_spec.specs.State.{Settings, Sender}
use Rattle.sender_spec.specs.Answers as answers
use Rattle.sender_spec.specs.Answers.{ClockAnswer}
use Rattle.sender_spec.specs.Packets.{content_of}
use Rattle.demands.specs.Line.{Line}

-- at a clock: a text, or a clock call with a lent space
pub data Call : Type 0 where
  offer : ℕ → List ℕ → Call
  clock : ℕ → List ℕ → Call

-- a packet that was written: its bytes, the clock of its call, and what it is to be read as
pub record Written : Type 0 where
  pub packet : List ℕ
  pub time : ℕ
  pub content : Content

abbrev pub primary_sent : Written → List ℕ
primary_sent w = w.content.primary

-- the first n bytes of the lent space after a call that answered n
abbrev pub written_by : ClockAnswer → List ℕ → ℕ → Content → List Written
written_by (answers.refused n) lent t c = []
written_by answers.quiet lent t c = []
written_by (answers.sent n) lent t c = record { packet = take n lent; time = t; content = c } ∷ []

-- the text of an offer that was answered with this number
abbrev pub accepted_text : ℕ → List ℕ → List ℕ
accepted_text zero x = x
accepted_text (suc n) x = []

module _ (l : Line) where
  abbrev pub writes : Sender → Call → List Written
  writes s (offer t x) = []
  writes s (clock t p) = written_by (l.clock s t p).answer (l.clock s t p).lent t (content_of s t)

  abbrev pub offers : Sender → Call → List ℕ
  offers s (offer t x) = accepted_text (l.offer s t x).number x
  offers s (clock t p) = []

  abbrev pub sender_after : Sender → Call → Sender
  sender_after s (offer t x) = (l.offer s t x).sender
  sender_after s (clock t p) = (l.clock s t p).sender

  -- each call gets the sender that the last call returned: what the list writes, the texts of its accepted offers, joined, and
  -- the sender that it leaves
  abbrev pub written : Sender → List Call → List Written
  written s [] = []
  written s (c ∷ cs) = writes s c ++ written (sender_after s c) cs

  abbrev pub typed : Sender → List Call → List ℕ
  typed s [] = []
  typed s (c ∷ cs) = offers s c ++ typed (sender_after s c) cs

  abbrev pub finally : Sender → List Call → Sender
  finally s [] = s
  finally s (c ∷ cs) = finally (sender_after s c) cs

  -- the same from an opening on
  abbrev pub sent_by : Settings → List Call → List Written
  sent_by x calls = written (l.open_sender x).sender calls

  abbrev pub typed_by : Settings → List Call → List ℕ
  typed_by x calls = typed (l.open_sender x).sender calls

  abbrev pub left_by : Settings → List Call → Sender
  left_by x calls = finally (l.open_sender x).sender calls
