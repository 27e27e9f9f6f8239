-- Demand 2: reading means what 01 and the RFCs say, writing likewise, and what is written is read back.
use Rattle.std.specs.Prelude.{ℕ, ◌≤◌, ◌≡◌, List, [], ◌++◌, map, ◌↔◌, true, length, get_or}
use Rattle.base.specs.Arrays.{over}
use Rattle.base.specs.Checks.{number_by}
use Rattle.base.specs.Every.{Every}
use Rattle.text_spec.specs.Utf8.{Characters}
use Rattle.text_spec.specs.WellFormed.{Letters}
use Rattle.packet_spec.specs.Limits.{level}
use Rattle.packet_spec.specs.Header.{Expected}
use Rattle.packet_spec.specs.Redundancy.{falling, offsets, joined}
use Rattle.packet_spec.specs.Reading.{Content, holds, reading, blocks}
use Rattle.packet_spec.specs.Encoding.{Admits}
use Rattle.receiver_spec.specs.State.{Receiver, source_expected}
use Rattle.receiver_spec.specs.Answers.{is_accepted}
use Rattle.sender_spec.specs.State.{Settings, Sender}
use Rattle.sender_spec.specs.Answers as answers
use Rattle.sender_spec.specs.Offering.{sender_with}
use Rattle.sender_spec.specs.Packets.{due, packet_bytes, after_packet}
use Rattle.sender_spec.specs.Clocking.{clock_checks}
use Rattle.demands.specs.Line.{Line}
use Rattle.demands.specs.Sending.{Call, Written, primary_sent, sent_by, typed_by, left_by}

-- a packet is read, by every reader with the sender's payload types that expects its source, as what it was written as: marker,
-- sequence, timestamp, source, older blocks with their offsets, primary; and a receiver with these types that has no source yet,
-- or this one, accepts it
pub record ReadBack (l : Line) (x : Settings) (w : Written) : Type 0 where
  pub read : (e : Expected) → Admits e x.source → l.read e x.t140 x.red w.packet ≡ holds w.content
  pub accepted : (r : Receiver) → r.t140 ≡ x.t140 → r.red ≡ x.red → Admits (source_expected r) x.source → is_accepted (l.step r w.packet).answer ≡ true

-- "Older blocks' offsets must fall strictly and end at 1 or more" (02, request 2)
abbrev pub AgesFall : Written → Type 0
AgesFall w = falling (offsets w.content.older) ≡ true

pub record Demand2 (l : Line) : Type 0 where
  -- text is letters of RFC 3629's table, one behind the other
  pub letters : (s : List ℕ) (n : ℕ) → (l.text s ≡ Characters n) ↔ Letters n s
  -- what a packet holds is 01's, and the bytes handed out as a block are that block's
  pub reads : (e : Expected) (t140 red : ℕ) (p : List ℕ) → l.read e t140 red p ≡ reading level e t140 red p
  pub hands_out : (e : Expected) (t140 red : ℕ) (p : List ℕ) (c : Content) (k : ℕ) → l.read e t140 red p ≡ holds c → l.block p c k ≡ get_or (blocks c) k []
  -- the text of an accepted offer joins the waiting room
  pub joins : (s : Sender) (t : ℕ) (x : List ℕ) → (l.offer s t x).number ≡ 0 → (l.offer s t x).sender ≡ sender_with s t x
  -- a clock call that meets no check writes the packet where one is due and the space holds it, and the sender moves on
  pub writes_when_due : (s : Sender) (t : ℕ) (p : List ℕ) → number_by (clock_checks s t) ≡ 0 → due s t ≡ true → length (packet_bytes s t) ≤ length p
      → ((l.clock s t p).answer ≡ answers.sent (length (packet_bytes s t))) × ((l.clock s t p).lent ≡ over (packet_bytes s t) p) × ((l.clock s t p).sender ≡ after_packet s t)
  -- over every list of calls from an accepted opening: what was written is read back,
  pub read_back : (x : Settings) (calls : List Call) → (l.open_sender x).number ≡ 0 → Every (ReadBack l x) (sent_by l x calls)
  -- the ages of its older blocks fall,
  pub ages_fall : (x : Settings) (calls : List Call) → (l.open_sender x).number ≡ 0 → Every AgesFall (sent_by l x calls)
  -- and the primaries, joined, and then what waits are the texts of the accepted offers: nothing is lost, doubled or moved
  pub as_typed : (x : Settings) (calls : List Call) → (l.open_sender x).number ≡ 0
      → joined (map primary_sent (sent_by l x calls)) ++ (left_by l x calls).waiting ≡ typed_by l x calls
