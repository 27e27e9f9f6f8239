-- The headers of a packet, by the ages and lengths of the blocks kept, newest first.
use Rattle.std.specs.Prelude.{ℕ, ◌+◌, ◌*◌, ◌/◌, ◌%◌, List, [], ◌∷◌, ◌++◌, cond, eqb, get_or}
use Rattle.writer.specs.declared.heading.Heading.{Heading}
use Rattle.packet_spec.specs.Encoding.{marker_bit, fixed_header, block_header}
use Rattle.writer.specs.Internal.LastFirst.{last_first}

-- the header of a block, by its tag: 14 bits of age and 8 of length
abbrev pub header_for : ℕ → ℕ → List ℕ
header_for t140 m = block_header t140 (m / 256 % 16384) (m % 256)

abbrev pub header_at : ℕ → List ℕ → ℕ → List ℕ
header_at t140 tags i = header_for t140 (get_or tags i 0)

-- the headers of the first n blocks, oldest first, and the primary's
abbrev pub headers_for : ℕ → List ℕ → ℕ → List ℕ
headers_for t140 tags n = last_first (header_at t140 tags) (t140 ∷ []) n

-- M and the payload type
abbrev pub second_of : Heading → ℕ
second_of h = marker_bit h.marker + cond (eqb h.level 0) (h.t140 % 128) (h.red % 128)

-- the block headers of a packet that repeats n blocks: none at level 0
unfoldable pub heads_with : Heading → List ℕ → ℕ → List ℕ
heads_with h tags n = cond (eqb h.level 0) [] (headers_for (h.t140 % 128) tags n)

-- all its headers
abbrev pub front_with : Heading → List ℕ → ℕ → List ℕ
front_with h tags n = fixed_header (second_of h) h.sequence h.timestamp h.source ++ heads_with h tags n

-- their length at level R
abbrev pub front_size : ℕ → ℕ → ℕ
front_size R n = cond (eqb R 0) 12 (12 + (4 * n + 1))
