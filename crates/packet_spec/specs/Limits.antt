-- The packet limits of 01: the values of Packet::SHORTEST, Packet::LONGEST and Packet::LEVEL.
use Rattle.std.specs.Prelude.{ℕ}

abbrev pub shortest : ℕ
shortest = 12

abbrev pub longest : ℕ
longest = 1472

-- the highest level R of a sender, and the most older blocks that are read; proofs use only that it is from 1 to 7
unfoldable pub level : ℕ
level = 7
