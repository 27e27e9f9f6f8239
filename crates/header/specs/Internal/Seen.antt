-- What is seen of a header: 01's number, and where that is 0 the fixed fields, whether the payload is plain (of type T140), and
-- where it lies.
use Rattle.std.specs.Prelude.{ℕ, List, Bool, false, eqb, Result, Ok, Err}
use Rattle.header.specs.declared.Header.{Header}
use Rattle.base.specs.Checks.{checked}
use Rattle.packet_spec.specs.Header.{Expected, marker_of, sequence_of, timestamp_of, source_of, payload_type, header_end, payload_end}
use Rattle.packet_spec.specs.Reading.{header_checks}
use Rattle.packet.specs.declared.Refusal.{Refusal}
use Rattle.packet.specs.Refusal.{number}

pub record HeaderSeen : Type 0 where
  pub number : ℕ
  pub plain : Bool
  pub marker : Bool
  pub sequence : ℕ
  pub timestamp : ℕ
  pub source : ℕ
  pub from : ℕ
  pub end : ℕ

abbrev pub refused_header : ℕ → HeaderSeen
refused_header n = record { number = n; plain = false; marker = false; sequence = 0; timestamp = 0; source = 0; from = 0; end = 0 }

abbrev pub header_seen : Result Header Refusal → HeaderSeen
header_seen (Ok h) = record {
  number = 0;
  plain = h.plain;
  marker = h.marker;
  sequence = h.sequence;
  timestamp = h.timestamp;
  source = h.source;
  from = h.from;
  end = h.end;
}
header_seen (Err r) = refused_header (number r)

abbrev pub passed_header : ℕ → List ℕ → HeaderSeen
passed_header t140 p = record {
  number = 0;
  plain = eqb (payload_type p) t140;
  marker = marker_of p;
  sequence = sequence_of p;
  timestamp = timestamp_of p;
  source = source_of p;
  from = header_end p;
  end = payload_end p;
}

unfoldable pub header_of : Expected → ℕ → ℕ → List ℕ → HeaderSeen
header_of expected t140 red p = checked refused_header (header_checks expected t140 red p) (passed_header t140 p)
