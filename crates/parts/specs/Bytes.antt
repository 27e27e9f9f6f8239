-- A journal byte by byte, for calls that are lent a part of the journal. `proofs/BytesTellRecords` shows that it tells what the records tell.
use Rattle.std.specs.Prelude.{ℕ, ◌+◌, ◌-◌, ◌*◌, Bool, true, false, cond, List, [], ◌∷◌, ◌++◌, ltb, leb, eqb, length, take, drop}
use Rattle.parts.specs.declared.Part.{Part}
use Rattle.parts.specs.declared.Part.TheVariants.{Kind, Types, Red, Length, Low, Piece, Time, Opened, Packet, Ended, Broken}
use Rattle.packet_spec.specs.Header.{types_bad}
use Rattle.journal_spec.specs.Records.{piece_length, time_length}
use Rattle.journal_spec.specs.Contents.{Contents, opens, packet, ends, breaks, are_zeros, longest_packet}

-- whether an open was read, where in a record the reading is, the length of the packet begun last, and its pieces' bytes
pub record Reading : Type 0 where
  pub opened : Bool
  pub part : Part
  pub size : ℕ
  pub pieces : List ℕ

abbrev pub fresh_reading : Reading
fresh_reading = record { opened = false; part = Kind; size = 0; pieces = [] }

abbrev pub at : Reading → Part → Reading
at r q = record { opened = r.opened; part = q; size = r.size; pieces = r.pieces }

-- behind a kind byte: after an open or not, within a packet or not
abbrev pub kind_of : Bool → Bool → ℕ → Part
kind_of opened inside b =
    cond inside (cond (eqb b 3) (Piece piece_length) Broken)
    (cond (eqb b 4) (Time time_length)
    (cond opened (cond (eqb b 2) Length (cond (eqb b 0) Ended Broken)) (cond (eqb b 1) Types Broken)))

-- a packet of n bytes begins
abbrev pub record_begun : Reading → ℕ → Reading
record_begun r n =
    cond (ltb longest_packet n) (at r Broken)
    (record { opened = r.opened; part = cond (eqb n 0) Packet Kind; size = n; pieces = [] })

-- behind a whole piece, where ps are the bytes of the pieces
abbrev pub piece_end : ℕ → List ℕ → Part
piece_end n ps = cond (ltb (length ps) n) Kind (cond (are_zeros (drop n ps)) Packet Broken)

abbrev pub pieced : Reading → List ℕ → Reading
pieced r ps = record { opened = r.opened; part = piece_end r.size ps; size = r.size; pieces = ps }

abbrev pub in_piece : Reading → ℕ → List ℕ → Reading
in_piece r n ps = record { opened = r.opened; part = Piece n; size = r.size; pieces = ps }

abbrev pub byte_at : Part → Reading → ℕ → Reading
byte_at Kind r b = at r (kind_of r.opened (ltb (length r.pieces) r.size) b)
byte_at Types r b = at r (Red b)
byte_at (Red t140) r b = at r (cond (types_bad t140 b) Broken (Opened t140 b))
byte_at Length r b = at r (Low b)
byte_at (Low high) r b = record_begun r (high * 256 + b)
byte_at (Piece n) r b = cond (leb n 1) (pieced r (r.pieces ++ b ∷ [])) (in_piece r (n - 1) (r.pieces ++ b ∷ []))
byte_at (Time n) r b = cond (leb n 1) (at r Kind) (at r (Time (n - 1)))
byte_at (Opened t140 red) r b = r
byte_at Packet r b = r
byte_at Ended r b = r
byte_at Broken r b = r

abbrev pub byte : Reading → ℕ → Reading
byte r b = byte_at r.part r b

-- reading stops at an open, a packet, the end and a break
abbrev pub going : Part → Bool
going Kind = true
going Types = true
going (Red t140) = true
going Length = true
going (Low high) = true
going (Piece n) = true
going (Time n) = true
going (Opened t140 red) = false
going Packet = false
going Ended = false
going Broken = false

-- as far as reading goes in these bytes, and what it leaves of them
unfoldable pub read_to : Reading → List ℕ → Reading
read_to r [] = r
read_to r (b ∷ bs) = cond (going r.part) (read_to (byte r b) bs) r

unfoldable pub unread : Reading → List ℕ → List ℕ
unread r [] = []
unread r (b ∷ bs) = cond (going r.part) (unread (byte r b) bs) (b ∷ bs)

-- past an open or a packet
abbrev pub past : Part → Reading → Reading
past (Opened t140 red) r = record { opened = true; part = Kind; size = 0; pieces = [] }
past Packet r = record { opened = r.opened; part = Kind; size = 0; pieces = [] }
past Kind r = r
past Types r = r
past (Red t140) r = r
past Length r = r
past (Low high) r = r
past (Piece n) r = r
past (Time n) r = r
past Ended r = r
past Broken r = r

-- what is told there, before what follows
abbrev pub telling : Part → Reading → Contents → Contents
telling (Opened t140 red) r more = opens t140 red more
telling Packet r more = packet (take r.size r.pieces) more
telling Ended r more = ends
telling Broken r more = breaks
telling Kind r more = more
telling Types r more = more
telling (Red t140) r more = more
telling Length r more = more
telling (Low high) r more = more
telling (Piece n) r more = more
telling (Time n) r more = more

-- what a reading tells of the bytes still to come
unfoldable pub tells : Reading → List ℕ → Contents
tells r [] = breaks
tells r (b ∷ bs) = telling (byte r b).part (byte r b) (tells (past (byte r b).part (byte r b)) bs)
