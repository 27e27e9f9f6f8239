-- Places in a circle of n.
use Rattle.std.specs.Prelude.{ℕ, ◌+◌, ◌-◌, cond, ltb}

-- the place of a number; 0 where it is none of a place
abbrev pub place : ℕ → ℕ → ℕ
place n k = cond (ltb k n) k 0

-- the place after a place, the first after the last
abbrev pub after : ℕ → ℕ → ℕ
after n k = cond (ltb (k + 1) n) (k + 1) 0

-- a number that is at most a whole circle further than a place
abbrev pub around : ℕ → ℕ → ℕ
around n k = cond (ltb k n) k (k - n)
