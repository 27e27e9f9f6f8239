-- What the exported reader answers, and what it leaves in the record lent to it.
use Rattle.std.specs.Prelude.{ℕ, ◌+◌, ◌-◌, List, [], ◌∷◌, length}
use Rattle.boundary.specs.declared.packets.Older.{Older}
use Rattle.boundary.specs.declared.packets.PacketRecord.{PacketRecord}
use Rattle.base.specs.Arrays.{filled}
use Rattle.base.specs.Flags.{bit}
use Rattle.packet_spec.specs.Limits.{level}
use Rattle.packet_spec.specs.Header.{payload_end}
use Rattle.packet_spec.specs.Redundancy.{Block}
use Rattle.packet_spec.specs.Reading.{Content, Read, holds, refused, starts_at}

abbrev pub none : Older
none = record { offset = 0; at = 0; len = 0 }

-- blocks lie one after the other
abbrev pub places_from : ℕ → List Block → List Older
places_from at [] = []
places_from at (b ∷ bs) = record { offset = b.offset; at = at; len = length b.bytes } ∷ places_from (at + length b.bytes) bs

-- the primary goes up to the payload's end
abbrev pub record_of : List ℕ → Content → PacketRecord
record_of p c = record {
  marker = bit c.marker;
  sequence = c.sequence;
  timestamp = c.timestamp;
  source = c.source;
  count = length c.older;
  older = filled none level (places_from (starts_at p c 0) c.older);
  primary = payload_end p - length c.primary;
  end = payload_end p;
}

-- 0 where the packet is accepted
abbrev pub read_number : Read → ℕ
read_number (refused k) = k
read_number (holds c) = 0

-- an accepted packet is stored over what was there; a refused one leaves it
abbrev pub packet_behind : List ℕ → Read → PacketRecord → PacketRecord
packet_behind p (refused k) before = before
packet_behind p (holds c) before = record_of p c
