-- A draft and the lent texts in the terms of the sender: what waits, the blocks kept, and the packet that is written from them.
use Rattle.std.specs.Prelude as Prelude
use Rattle.std.specs.Prelude.{Option, None, Some, Ok, Err, ℕ, suc, ◌%◌, List, [], ◌∷◌, map, reverse, Bool, true, false, cond, ◌||◌, ltb, eqb, length, take}
use Rattle.writer.specs.declared.Draft.{Draft}
use Rattle.base.specs.Arrays.{over}
use Rattle.packet.specs.declared.Refusal.{Refusal}
use Rattle.packet.specs.declared.Refusal.TheVariants.{Space}
use Rattle.packet.specs.Refusal.{number}
use Rattle.packet_spec.specs.Reading.{Content}
use Rattle.packet_spec.specs.Encoding.{plain_bytes, redundant_bytes}
use Rattle.sender_spec.specs.State.{SentBlock, has_text}
use Rattle.sender_spec.specs.Answers.{ClockAnswer, refused, quiet, sent}
use Rattle.sender_spec.specs.Packets.{recent_run, any_text, repeated}
use Rattle.slots.specs.Slots.{slot_of, slot_text, waiting_in}

-- blocks by their lengths and times, newest first, from so many packets back
abbrev pub blocks_from : List ℕ → ℕ → ℕ → List ℕ → List ℕ → List SentBlock
blocks_from texts room back [] ats = []
blocks_from texts room back (n ∷ lens) [] = []
blocks_from texts room back (n ∷ lens) (t ∷ ats) = record { text = slot_text texts (slot_of room back) n; at = t } ∷ blocks_from texts room (suc back) lens ats

-- the first `count` of them
abbrev pub kept_in : List ℕ → ℕ → List ℕ → List ℕ → ℕ → List SentBlock
kept_in texts room lens ats count = take count (blocks_from texts room 1 lens ats)

-- the older blocks that the packet repeats, newest first
abbrev pub carried_by : Draft → List ℕ → List SentBlock
carried_by d texts = recent_run d.clock (take d.heading.level (kept_in texts d.room d.kept.lens d.kept.ats d.kept.count))

abbrev pub draft_primary : Draft → List ℕ → List ℕ
draft_primary d texts = waiting_in texts d.room d.len

abbrev pub draft_content : Draft → List ℕ → Content
draft_content d texts = record {
  marker = d.heading.marker;
  sequence = d.heading.sequence;
  timestamp = d.heading.timestamp;
  source = d.heading.source;
  older = map (repeated d.clock) (reverse (carried_by d texts));
  primary = draft_primary d texts;
}

-- a payload type has 7 bits
abbrev pub draft_packet : Draft → List ℕ → List ℕ
draft_packet d texts =
    cond (eqb d.heading.level 0) (plain_bytes (d.heading.t140 % 128) (draft_content d texts)) (redundant_bytes (d.heading.t140 % 128) (d.heading.red % 128) (draft_content d texts))

-- what the clock call answers: the length of the packet, or nothing to send
abbrev pub Answered : Type 0
Answered = Prelude.Result (Option ℕ) Refusal

-- the code's answer in the terms of 01
abbrev pub clock_answer : Answered → ClockAnswer
clock_answer (Err r) = refused (number r)
clock_answer (Ok None) = quiet
clock_answer (Ok (Some n)) = sent n

-- by the length of the packet, 0 where there is nothing to send, and the length of the space
abbrev pub answer_by : ℕ → ℕ → Answered
answer_by n space = cond (eqb n 0) (Ok None) (cond (ltb space n) (Err Space) (Ok (Some n)))

-- what is answered, and the lent space afterwards
pub record Result : Type 0 where
  pub answer : ClockAnswer
  pub lent : List ℕ

-- quiet where neither what waits nor a block that would be repeated has text; refused where the space does not hold the packet
unfoldable pub put_of : Draft → List ℕ → List ℕ → Result
put_of d texts p =
    cond (has_text (draft_primary d texts) || any_text (carried_by d texts))
    (cond (ltb (length p) (length (draft_packet d texts))) (record { answer = refused 8; lent = p })
    (record { answer = sent (length (draft_packet d texts)); lent = over (draft_packet d texts) p }))
    (record { answer = quiet; lent = p })
