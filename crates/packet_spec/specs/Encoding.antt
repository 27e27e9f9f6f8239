-- The bytes of a packet that is written here: version 2, with no padding, extension or source list (01, "The sender").
use Rattle.std.specs.Prelude.{ℕ, ◌+◌, ◌*◌, ◌/◌, ◌%◌, ◌≡◌, List, [], ◌∷◌, ◌++◌, Bool, true, false, length}
use Rattle.packet_spec.specs.Header.{Expected, Any, Only}
use Rattle.packet_spec.specs.Redundancy.{Block, blocks_of, joined}
use Rattle.packet_spec.specs.Reading.{Content}

abbrev pub bytes16 : ℕ → List ℕ
bytes16 n = n / 256 ∷ n % 256 ∷ []

abbrev pub bytes32 : ℕ → List ℕ
bytes32 n = n / 16777216 ∷ n / 65536 % 256 ∷ n / 256 % 256 ∷ n % 256 ∷ []

abbrev pub marker_bit : Bool → ℕ
marker_bit true = 128
marker_bit false = 0

-- the fixed header, with M and the payload type as one byte
abbrev pub fixed_header : ℕ → ℕ → ℕ → ℕ → List ℕ
fixed_header second sequence timestamp source = 0x80 ∷ second ∷ (bytes16 sequence ++ (bytes32 timestamp ++ bytes32 source))

abbrev pub header_bytes : ℕ → Content → List ℕ
header_bytes type c = fixed_header (marker_bit c.marker + type) c.sequence c.timestamp c.source

-- an older block's header: bit 1, 7 bits of type, 14 bits of time offset, 10 bits of length
abbrev pub block_header : ℕ → ℕ → ℕ → List ℕ
block_header t140 offset len = (128 + t140) ∷ offset / 64 ∷ (offset % 64 * 4 + len / 256) ∷ len % 256 ∷ []

abbrev pub head_bytes : ℕ → Block → List ℕ
head_bytes t140 b = block_header t140 b.offset (length b.bytes)

-- the older blocks' headers and the primary's
abbrev pub heads_bytes : ℕ → List Block → List ℕ
heads_bytes t140 [] = t140 ∷ []
heads_bytes t140 (b ∷ bs) = head_bytes t140 b ++ heads_bytes t140 bs

-- as type T140: the primary alone
abbrev pub plain_bytes : ℕ → Content → List ℕ
plain_bytes t140 c = header_bytes t140 c ++ c.primary

-- as type RED
abbrev pub redundant_bytes : ℕ → ℕ → Content → List ℕ
redundant_bytes t140 red c = header_bytes red c ++ (heads_bytes t140 c.older ++ joined (blocks_of c.older c.primary))

-- a source that is among those expected
abbrev pub Admits : Expected → ℕ → Type 0
Admits Any s = Unit {0}
Admits (Only x) s = s ≡ x
