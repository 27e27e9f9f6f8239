-- The record of a packet by its places and by the block headers in its bytes.
use Rattle.std.specs.Prelude.{ℕ, ◌+◌, ◌-◌, ◌*◌, List, [], ◌∷◌, cond, ◌||◌, ltb, length, drop}
use Rattle.boundary.specs.declared.packets.Older.{Older}
use Rattle.boundary.specs.declared.packets.PacketRecord.{PacketRecord}
use Rattle.base.specs.Arrays.{filled}
use Rattle.packet_spec.specs.Limits.{level}
use Rattle.packet_spec.specs.Redundancy.{Head}
use Rattle.packet_spec.specs.Internal.Heads.{heads_in}
use Rattle.packet.specs.declared.Packet.{Packet}
use Rattle.boundary.specs.Packets.{none}

abbrev pub head_places : ℕ → List Head → List Older
head_places at [] = []
head_places at (h ∷ hs) = record { offset = h.offset; at = at; len = h.len } ∷ head_places (at + h.len) hs

-- the older blocks' headers, and the primary's, of one byte, stand right before the oldest block; none where the places cannot be a
-- packet's
abbrev pub older_places : List ℕ → ℕ → ℕ → List Older
older_places p first count =
    cond (ltb (length p) first || ltb level count || ltb first (4 * count + 1)) []
    (head_places first (heads_in count (drop (first - (4 * count + 1)) p)))

abbrev pub record_from : List ℕ → Packet → PacketRecord
record_from p k = record {
  marker = k.marker;
  sequence = k.sequence;
  timestamp = k.timestamp;
  source = k.source;
  count = k.count;
  older = filled none level (older_places p k.first k.count);
  primary = k.primary;
  end = k.end;
}
