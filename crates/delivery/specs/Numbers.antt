-- Sequence numbers (RFC 3550, section 5.1), and demand 3's window (02, request 4).
use Rattle.std.specs.Prelude.{ℕ, ◌+◌, ◌%◌}

-- how many sequence numbers there are
abbrev pub circle : ℕ
circle = 65536

-- demand 3's window: how far an accepted packet may be ahead of the newest accepted so far, and how far behind it
abbrev pub most_ahead : ℕ
most_ahead = 2999

abbrev pub most_behind : ℕ
most_behind = 99

-- "wrapped to 0..65,535"
abbrev pub wrapped : ℕ → ℕ
wrapped n = n % circle

-- the sequence number after n: "plus 1, wrapping from 65,535 to 0"
abbrev pub next : ℕ → ℕ
next n = wrapped (n + 1)
