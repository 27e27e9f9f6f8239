-- The sender's limits of 01. The highest level is packet's, and the age up to which a block is repeated delivery's.
use Rattle.std.specs.Prelude.{ℕ, ◌+◌, ◌*◌}

-- "A block written: 0 to 160 bytes", "the 160 bytes waiting room"
abbrev pub room_size : ℕ
room_size = 160

-- "a buffering time from 1 to 500 ms"
abbrev pub longest_buffering : ℕ
longest_buffering = 500

-- "a rate from 1 to 100"
abbrev pub highest_rate : ℕ
highest_rate = 100

-- the longest packet of level R: the fixed header, R headers of 4 bytes and one of 1, and as many full blocks
abbrev pub longest_written : ℕ → ℕ
longest_written r = 12 + 4 * r + 1 + room_size * (r + 1)
