-- The reader's answer: 01's number, and the packet with its blocks given by their places.
use Rattle.std.specs.Prelude.{ℕ, ◌-◌, List, length, Option, Some, None, Result, Ok, Err}
use Rattle.packet.specs.declared.Packet.{Packet}
use Rattle.packet.specs.declared.Refusal.{Refusal}
use Rattle.base.specs.Flags.{bit}
use Rattle.packet_spec.specs.Limits.{level}
use Rattle.packet.specs.Refusal.{number}
use Rattle.packet_spec.specs.Header.{Expected, Any, Only, payload_end}
use Rattle.packet_spec.specs.Reading.{Content, Read, holds, refused, reading, starts_at}

-- the source that is expected, in the terms of the definition
abbrev pub expected_source : Option ℕ → Expected
expected_source None = Any
expected_source (Some s) = Only s

-- an answer by its number: 0, or the refusal's
pub record ReadResult : Type 0 where
  pub number : ℕ
  pub packet : Packet

abbrev pub zero_packet : Packet
zero_packet = record { marker = 0; sequence = 0; timestamp = 0; source = 0; count = 0; first = 0; primary = 0; end = 0 }

abbrev pub refused_answer : ℕ → ReadResult
refused_answer k = record { number = k; packet = zero_packet }

abbrev pub numbered : Result Packet Refusal → ReadResult
numbered (Ok p) = record { number = 0; packet = p }
numbered (Err r) = refused_answer (number r)

-- the older blocks lie one behind the other, and the primary goes up to the payload's end
abbrev pub placed : List ℕ → Content → Packet
placed p c = record {
  marker = bit c.marker;
  sequence = c.sequence;
  timestamp = c.timestamp;
  source = c.source;
  count = length c.older;
  first = starts_at p c 0;
  primary = payload_end p - length c.primary;
  end = payload_end p;
}

abbrev pub answer : List ℕ → Read → ReadResult
answer p (refused k) = refused_answer k
answer p (holds c) = record { number = 0; packet = placed p c }

unfoldable pub read_of : Expected → ℕ → ℕ → List ℕ → ReadResult
read_of expected t140 red p = answer p (reading level expected t140 red p)
