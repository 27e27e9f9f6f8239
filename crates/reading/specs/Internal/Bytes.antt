-- A reader behind bytes that belong to no piece.
use Rattle.std.specs.Prelude.{ℕ, ◌+◌, ◌-◌, ◌*◌, Bool, true, cond, ltb, eqb}
use Rattle.packet_spec.specs.Header.{types_bad}
use Rattle.journal_spec.specs.Contents.{longest_packet}
use Rattle.parts.specs.declared.Part.{Part}
use Rattle.parts.specs.declared.Part.TheVariants.{Kind, Types, Red, Length, Low, Piece, Time, Opened, Packet, Ended, Broken}
use Rattle.parts.specs.Bytes.{kind_of}
use Rattle.reading.specs.declared.Reader.{Reader}
use Rattle.reading.specs.Reading.{outside, with, broken}

-- a packet of n bytes begins
abbrev pub begun_by : Reader → ℕ → Reader
begun_by r n =
    cond (ltb longest_packet n) (broken r)
    (record { opened = r.opened; part = cond (eqb n 0) Packet Kind; size = n; at = 0 })

-- a kind byte
abbrev pub kind_by : Reader → ℕ → Reader
kind_by r b = with r (kind_of r.opened (ltb r.at r.size) b) r.at

abbrev pub reader_byte : Part → Reader → ℕ → Reader
reader_byte Kind r b = r
reader_byte Types r b = with r (Red b) r.at
reader_byte (Red t140) r b = with r (cond (types_bad t140 b) Broken (Opened t140 b)) r.at
reader_byte Length r b = with r (Low b) r.at
reader_byte (Low high) r b = begun_by r (high * 256 + b)
reader_byte (Piece n) r b = r
reader_byte (Time n) r b = r
reader_byte (Opened t140 red) r b = r
reader_byte Packet r b = r
reader_byte Ended r b = r
reader_byte Broken r b = r

-- a byte of an open's types or of a packet's length
abbrev pub byte_of : Reader → ℕ → Reader
byte_of r b = reader_byte r.part r b

-- m of the n bytes that are to come of a time
abbrev pub time_of : Reader → ℕ → ℕ → Reader
time_of r n m = with r (cond (ltb m n) (Time (n - m)) Kind) r.at

abbrev pub past_at : Part → Bool → Reader
past_at (Opened t140 red) o = outside true Kind
past_at Packet o = outside o Kind
past_at Ended o = outside o Ended
past_at Broken o = outside o Broken
past_at Kind o = outside o Kind
past_at Types o = outside o Types
past_at (Red t140) o = outside o (Red t140)
past_at Length o = outside o Length
past_at (Low high) o = outside o (Low high)
past_at (Piece n) o = outside o (Piece n)
past_at (Time n) o = outside o (Time n)

-- past what reading stopped at
abbrev pub past_of : Reader → Reader
past_of r = past_at r.part r.opened
