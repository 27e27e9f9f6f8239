-- From where reading can go on.
use Rattle.std.specs.Prelude.{ℕ, ◌+◌, ◌%◌, Bool, ◌&&◌, leb, eqb}
use Rattle.parts.specs.declared.Part.{Part}
use Rattle.parts.specs.declared.Part.TheVariants.{Kind, Types, Red, Length, Low, Piece, Time, Opened, Packet, Ended, Broken}
use Rattle.journal_spec.specs.Records.{piece_length}
use Rattle.journal_spec.specs.Contents.{longest_packet}

-- the bytes of whole pieces, of the longest packet's at most
abbrev pub whole_pieces : ℕ → Bool
whole_pieces n = leb n longest_packet && eqb (n % piece_length) 0

-- a piece or a time under way has a byte to come, and a packet is within its pieces
abbrev pub sound_at : Part → ℕ → ℕ → Bool
sound_at Kind size at = whole_pieces at
sound_at Types size at = whole_pieces at
sound_at (Red t140) size at = whole_pieces at
sound_at Length size at = whole_pieces at
sound_at (Low high) size at = whole_pieces at
sound_at (Piece n) size at = leb 1 n && whole_pieces (at + n)
sound_at (Time n) size at = leb 1 n && whole_pieces at
sound_at (Opened t140 red) size at = whole_pieces at
sound_at Packet size at = leb size at && whole_pieces at
sound_at Ended size at = whole_pieces at
sound_at Broken size at = whole_pieces at

-- a part, with `at` bytes of the pieces of a packet of `size` bytes
abbrev pub sound_part : Part → ℕ → ℕ → Bool
sound_part q size at = leb size longest_packet && sound_at q size at
