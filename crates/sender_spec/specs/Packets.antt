-- The packet that a sender would send at clock t, whether it is due, and the sender behind it (01, "The sender"). Times are
-- compared by their differences, which fit 64 bits.
use Rattle.std.specs.Prelude.{ℕ, ◌+◌, ◌-◌, ◌%◌, List, [], ◌∷◌, ◌++◌, map, reverse, Bool, true, false, cond, ◌||◌, ◌&&◌, not, ltb, leb, eqb, length, take, drop, replicate}
use Rattle.text_spec.specs.Front.{front}
use Rattle.packet_spec.specs.Limits.{level}
use Rattle.packet_spec.specs.Redundancy
use Rattle.packet_spec.specs.Reading.{Content}
use Rattle.packet_spec.specs.Encoding.{plain_bytes, redundant_bytes}
use Rattle.delivery.specs.Numbers.{next}
use Rattle.delivery.specs.Run.{oldest_age}
use Rattle.sender_spec.specs.State.{SentBlock, Progress, Sender, has_text}
use Rattle.sender_spec.specs.Rate.{limit_of, allowed}

-- "sent at most 16,383 ms before t"
abbrev pub recent : ℕ → SentBlock → Bool
recent t b = leb (t - b.at) oldest_age

-- the longest run from the front
abbrev pub recent_run : ℕ → List SentBlock → List SentBlock
recent_run t [] = []
recent_run t (b ∷ bs) = cond (recent t b) (b ∷ recent_run t bs) []

-- "At clock t a packet would carry as older blocks the longest run of the most recent blocks, at most R"; newest first
abbrev pub carried : Sender → ℕ → List SentBlock
carried s t = recent_run t (take s.settings.level s.kept)

-- how many of the waiting characters the rate lets go at t
abbrev pub going : Sender → ℕ → ℕ
going s t = allowed (limit_of s.settings) s.times t s.characters

-- "A due packet takes the longest whole-character front of the waiting room that fits" (02): all of it where all may go
abbrev pub taken : Sender → ℕ → List ℕ
taken s t = cond (eqb (going s t) s.characters) s.waiting (front (going s t) s.waiting)

-- and leaves the rest there
abbrev pub left : Sender → ℕ → List ℕ
left s t = drop (length (taken s t)) s.waiting

abbrev pub any_text : List SentBlock → Bool
any_text [] = false
any_text (b ∷ bs) = has_text b.text || any_text bs

-- "A packet is due when none was sent yet or t is at least the buffering time after the last packet,
abbrev pub ready_at : ℕ → Progress → ℕ → Bool
ready_at buffering p t = not p.sent || leb buffering (t - p.last)

-- and besides this the waiting room is not empty or one of the blocks it would carry is not empty"; "if none fits, the due rule
-- treats the room as empty" (02)
abbrev pub due : Sender → ℕ → Bool
due s t = ready_at s.settings.buffering s.progress t && (has_text (taken s t) || any_text (carried s t))

-- "M is 1 on the first packet, and on a packet with text whose first waiting byte was offered more than the buffering time
-- after the last packet that had text"
abbrev pub marker : Sender → ℕ → Bool
marker s t = not s.progress.sent || (has_text (taken s t) && ltb s.settings.buffering (s.since - s.progress.last_text))

-- a block that is repeated at t
abbrev pub repeated : ℕ → SentBlock → Redundancy.Block
repeated t b = record { offset = t - b.at; bytes = b.text }

-- "timestamp is first timestamp plus t, wrapped at 2^32"
abbrev pub content_of : Sender → ℕ → Content
content_of s t = record {
  marker = marker s t;
  sequence = s.progress.next;
  timestamp = (s.settings.timestamp + t) % 4294967296;
  source = s.settings.source;
  older = map (repeated t) (reverse (carried s t));
  primary = taken s t;
}

-- "R of 0 uses T140; any other R uses RED, even with no older block"
abbrev pub packet_bytes : Sender → ℕ → List ℕ
packet_bytes s t =
    cond (eqb s.settings.level 0) (plain_bytes s.settings.t140 (content_of s t))
    (redundant_bytes s.settings.t140 s.settings.red (content_of s t))

-- the blocks that are kept behind the packet: its own, empty or not ("Empty blocks count as blocks"), and the last before it
abbrev pub kept_after : Sender → ℕ → List SentBlock
kept_after s t = take level (record { text = taken s t; at = t } ∷ s.kept)

-- the last characters that count for the rate
abbrev pub times_after : Sender → ℕ → List ℕ
times_after s t = take (limit_of s.settings) (replicate (going s t) t ++ s.times)

-- "sequence grows by 1, wrapped"
abbrev pub progress_after : Sender → ℕ → Progress
progress_after s t = record {
  sent = true;
  last = t;
  last_text = cond (has_text (taken s t)) t s.progress.last_text;
  next = next s.progress.next;
}

-- "With a leftover the M rule counts it as offered when the previous text packet was sent" (02)
abbrev pub after_packet : Sender → ℕ → Sender
after_packet s t = record {
  settings = s.settings;
  clock = t;
  waiting = left s t;
  characters = s.characters - going s t;
  since = cond (has_text (taken s t)) t s.since;
  kept = kept_after s t;
  times = times_after s t;
  progress = progress_after s t;
}
