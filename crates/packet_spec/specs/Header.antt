-- The packet header: fixed fields, source list, extension and padding (RFC 3550, sections 5.1 and 5.3.1).
use Rattle.std.specs.Prelude.{ℕ, ◌+◌, ◌-◌, ◌*◌, ◌/◌, ◌%◌, List, Bool, false, cond, ◌||◌, ◌&&◌, not, ltb, leb, eqb, length, get_or}
use Rattle.std.proofs.Math.Seq.{slice}

-- big-endian numbers at a place
abbrev pub be16 : List ℕ → ℕ → ℕ
be16 p at = get_or p at 0 * 256 + get_or p (at + 1) 0

abbrev pub be32 : List ℕ → ℕ → ℕ
be32 p at = ((get_or p at 0 * 256 + get_or p (at + 1) 0) * 256 + get_or p (at + 2) 0) * 256 + get_or p (at + 3) 0

-- first byte: version, P, X, CC
abbrev pub version : List ℕ → ℕ
version p = get_or p 0 0 / 64

abbrev pub padding_bit : List ℕ → ℕ
padding_bit p = get_or p 0 0 / 32 % 2

abbrev pub extension_bit : List ℕ → ℕ
extension_bit p = get_or p 0 0 / 16 % 2

abbrev pub source_count : List ℕ → ℕ
source_count p = get_or p 0 0 % 16

-- second byte: M, payload type
abbrev pub marker_of : List ℕ → Bool
marker_of p = leb 128 (get_or p 1 0)

abbrev pub payload_type : List ℕ → ℕ
payload_type p = get_or p 1 0 % 128

abbrev pub sequence_of : List ℕ → ℕ
sequence_of p = be16 p 2

abbrev pub timestamp_of : List ℕ → ℕ
timestamp_of p = be32 p 4

abbrev pub source_of : List ℕ → ℕ
source_of p = be32 p 8

-- the fixed fields and the source list
abbrev pub list_end : List ℕ → ℕ
list_end p = 12 + source_count p * 4

-- and the extension: 4 bytes, the last two of which count further 4-byte words
abbrev pub header_end : List ℕ → ℕ
header_end p = cond (eqb (extension_bit p) 0) (list_end p) (list_end p + 4 + be16 p (list_end p + 2) * 4)

-- the padding count, itself included; 0 without padding
abbrev pub padding : List ℕ → ℕ
padding p = cond (eqb (padding_bit p) 0) 0 (get_or p (length p - 1) 0)

-- padding count 0, above the payload, or no payload to hold it
abbrev pub padding_bad : List ℕ → Bool
padding_bad p =
    not (eqb (padding_bit p) 0) && (eqb (length p) (header_end p) || eqb (padding p) 0 || ltb (length p - header_end p) (padding p))

abbrev pub payload_end : List ℕ → ℕ
payload_end p = length p - padding p

-- the payload without the padding
abbrev pub payload : List ℕ → List ℕ
payload p = slice (header_end p) (payload_end p) p

-- payload types outside 96..127, or equal
abbrev pub types_bad : ℕ → ℕ → Bool
types_bad t140 red = ltb t140 96 || ltb 127 t140 || ltb red 96 || ltb 127 red || eqb t140 red

abbrev pub other_type : ℕ → ℕ → List ℕ → Bool
other_type t140 red p = not (eqb (payload_type p) t140) && not (eqb (payload_type p) red)

-- the source that a packet must have: any, or only this one
pub data Expected : Type 0 where
  Any : Expected
  Only : ℕ → Expected

abbrev pub other_source : Expected → List ℕ → Bool
other_source Any p = false
other_source (Only s) p = not (eqb (source_of p) s)
