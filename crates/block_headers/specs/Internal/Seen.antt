-- What is seen of the block headers of a payload: 01's number, and where that is 0 how many older blocks there are, where the oldest
-- block and the primary start, and whether ages fall.
use Rattle.std.specs.Prelude.{ℕ, ◌+◌, ◌-◌, List, [], Bool, false, cond, ◌||◌, ltb, length, Result, Ok, Err}
use Rattle.std.proofs.Math.Seq.{slice}
use Rattle.block_headers.specs.declared.Headers.{Headers}
use Rattle.packet_spec.specs.Limits.{level}
use Rattle.packet_spec.specs.Redundancy.{Heads, heads, bad, headers, total, ages_fall}
use Rattle.packet.specs.declared.Refusal.{Refusal}
use Rattle.packet.specs.Refusal.{number}

pub record HeadersSeen : Type 0 where
  pub number : ℕ
  pub count : ℕ
  pub first : ℕ
  pub primary : ℕ
  pub fall : Bool

abbrev pub refused_heads : ℕ → HeadersSeen
refused_heads n = record { number = n; count = 0; first = 0; primary = 0; fall = false }

abbrev pub headers_seen : Result Headers Refusal → HeadersSeen
headers_seen (Ok h) = record { number = 0; count = h.count; first = h.first; primary = h.primary; fall = h.ages_fall }
headers_seen (Err r) = refused_heads (number r)

-- of a payload that ends at a place
abbrev pub seen_before : ℕ → Heads → HeadersSeen
seen_before end (bad n) = refused_heads n
seen_before end (heads hs s) = record {
  number = 0;
  count = length hs;
  first = end - length s;
  primary = end - length s + total hs;
  fall = ages_fall hs;
}

-- there are none before a plain payload; 17 where the places do not lie within the packet
abbrev pub heads_within : Bool → ℕ → List ℕ → ℕ → ℕ → Heads
heads_within plain t140 p from end =
    cond (ltb end from || ltb (length p) end) (bad 17)
    (cond plain (heads [] (slice from end p)) (headers t140 level [] (slice from end p)))

unfoldable pub headers_of : Bool → ℕ → List ℕ → ℕ → ℕ → HeadersSeen
headers_of plain t140 p from end = seen_before end (heads_within plain t140 p from end)
