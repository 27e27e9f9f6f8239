-- What is seen of the blocks of a payload: 01's number, and where that is 0 how many older blocks there are, and where the oldest
-- and the primary start.
use Rattle.std.specs.Prelude.{ℕ, ◌+◌, ◌-◌, List, Bool, length, Result, Ok, Err}
use Rattle.blocks.specs.declared.Blocks.{Blocks}
use Rattle.base.specs.Checks.{checked}
use Rattle.packet_spec.specs.Redundancy.{Head, Heads, heads, bad, total}
use Rattle.packet_spec.specs.Reading.{block_checks}
use Rattle.packet.specs.declared.Refusal.{Refusal}
use Rattle.packet.specs.Refusal.{number}
use Rattle.block_headers.specs.Internal.Seen.{heads_within}

pub record BlocksSeen : Type 0 where
  pub number : ℕ
  pub count : ℕ
  pub first : ℕ
  pub primary : ℕ

abbrev pub refused_blocks : ℕ → BlocksSeen
refused_blocks n = record { number = n; count = 0; first = 0; primary = 0 }

abbrev pub blocks_seen : Result Blocks Refusal → BlocksSeen
blocks_seen (Ok b) = record { number = 0; count = b.count; first = b.first; primary = b.primary }
blocks_seen (Err r) = refused_blocks (number r)

-- blocks that lie one behind the other, of a payload that ends at a place
abbrev pub placed_blocks : ℕ → List Head → List ℕ → BlocksSeen
placed_blocks end hs s = record { number = 0; count = length hs; first = end - length s; primary = end - length s + total hs }

abbrev pub seen_behind : ℕ → Heads → BlocksSeen
seen_behind end (bad n) = refused_blocks n
seen_behind end (heads hs s) = checked refused_blocks (block_checks hs s) (placed_blocks end hs s)

-- a plain payload, or one with block headers
unfoldable pub blocks_seen_at : Bool → ℕ → List ℕ → ℕ → ℕ → BlocksSeen
blocks_seen_at plain t140 p from end = seen_behind end (heads_within plain t140 p from end)
