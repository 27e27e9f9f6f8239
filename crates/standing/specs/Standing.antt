-- Where a transcript stands between calls, and where each call leads.
use Rattle.std.specs.Prelude.{ℕ, ◌-◌, Bool, true, cond, ◌&&◌, not, List, [], eqb, length, take, drop}
use Rattle.parts.specs.declared.Part.{Part}
use Rattle.parts.specs.declared.Part.TheVariants.{Kind, Types, Red, Length, Low, Piece, Time, Opened, Packet, Ended, Broken}
use Rattle.counts.specs.declared.Counts.{Counts}
use Rattle.receiver_spec.specs.Opening.{open_receiver}
use Rattle.receiver_spec.specs.State.{zero_receiver, Receiver}
use Rattle.receiver_spec.specs.Step.{step_of, text_given}
use Rattle.receiver_spec.specs.Record.{loss_of}
use Rattle.printing.specs.Fitting.{marks_fitting, text_fitting, due_fitting}
use Rattle.journal_spec.specs.Contents.{limit}
use Rattle.parts.specs.Bytes.{Reading, fresh_reading, going, read_to, unread}
use Rattle.journal_spec.specs.Lines.{broken_line}
use Rattle.counts.specs.Counts.{no_counts, counted, line_of}

-- what was read, the receiver, the counts, how many bytes may still be read, and what is due: marks, then text
pub record Standing : Type 0 where
  pub reading : Reading
  pub receiver : Receiver
  pub counts : Counts
  pub left : ℕ
  pub marks : ℕ
  pub text : List ℕ

abbrev pub start_standing : Standing
start_standing = record { reading = fresh_reading; receiver = zero_receiver; counts = no_counts; left = limit; marks = 0; text = [] }

-- the end, with its line due
abbrev pub closed : Standing → Part → List ℕ → Standing
closed c q line = record {
  reading = record { opened = c.reading.opened; part = q; size = 0; pieces = [] };
  receiver = c.receiver;
  counts = c.counts;
  left = c.left;
  marks = 0;
  text = line;
}

-- past an open or a packet
abbrev pub next_record : Standing → Bool → Receiver → Counts → ℕ → List ℕ → Standing
next_record c o r n m t = record {
  reading = record { opened = o; part = Kind; size = 0; pieces = [] };
  receiver = r;
  counts = n;
  left = c.left;
  marks = m;
  text = t;
}

abbrev pub packet_in : Reading → List ℕ
packet_in r = take r.size r.pieces

-- a packet is read: its marks and its text are due
abbrev pub stepped : Standing → List ℕ → Standing
stepped c p =
    next_record c c.reading.opened (step_of c.receiver p).receiver (counted (step_of c.receiver p).answer c.counts)
    (loss_of (step_of c.receiver p).answer) (text_given p (step_of c.receiver p).answer)

-- more is to come, unless the limit is reached
abbrev pub waits : Standing → Standing
waits c = cond (eqb c.left 0) (closed c Broken broken_line) c

abbrev pub settled_at : Part → Standing → Standing
settled_at (Opened t140 red) c = next_record c true (open_receiver t140 red).receiver c.counts 0 []
settled_at Packet c = stepped c (packet_in c.reading)
settled_at Ended c = closed c Ended (line_of c.counts)
settled_at Broken c = closed c Broken broken_line
settled_at Kind c = waits c
settled_at Types c = waits c
settled_at (Red t140) c = waits c
settled_at Length c = waits c
settled_at (Low high) c = waits c
settled_at (Piece n) c = waits c
settled_at (Time n) c = waits c

-- what was read is acted upon
unfoldable pub settled : Standing → Standing
settled c = settled_at c.reading.part c

abbrev pub read_on : Standing → Reading → ℕ → Standing
read_on c r n = record { reading = r; receiver = c.receiver; counts = c.counts; left = n; marks = 0; text = [] }

abbrev pub nothing_due : Standing → Bool
nothing_due c = eqb c.marks 0 && eqb (length c.text) 0

-- reading goes on, and nothing is due
abbrev pub hungry : Standing → Bool
hungry c = going c.reading.part && nothing_due c

-- the end has come, and all is given
abbrev pub finished : Standing → Bool
finished c = not (going c.reading.part) && nothing_due c

-- how much of x a call takes: as far as reading goes in what may still be read, and nothing while something is due
unfoldable pub used_of : Standing → List ℕ → ℕ
used_of c x = cond (hungry c) (length (take c.left x) - length (unread c.reading (take c.left x))) 0

unfoldable pub take_of : Standing → List ℕ → Standing
take_of c x = cond (hungry c) (settled (read_on c (read_to c.reading (take c.left x)) (c.left - used_of c x))) c

-- how many marks and how many bytes of text go into a space of n bytes
abbrev pub marks_in : Standing → ℕ → ℕ
marks_in c n = marks_fitting c.marks n

abbrev pub text_fits : Standing → ℕ → ℕ
text_fits c n = text_fitting c.marks c.text n

unfoldable pub given_of : Standing → ℕ → List ℕ
given_of c n = due_fitting c.marks c.text n

unfoldable pub give_of : Standing → ℕ → Standing
give_of c n = record {
  reading = c.reading;
  receiver = c.receiver;
  counts = c.counts;
  left = c.left;
  marks = c.marks - marks_in c n;
  text = drop (text_fits c n) c.text;
}

-- the journal has no more bytes
unfoldable pub stop_of : Standing → Standing
stop_of c = cond (hungry c) (closed c Broken broken_line) c
