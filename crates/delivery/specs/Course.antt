-- How far ahead of the expected number a packet is, what that makes of it, and what it then adds (01, "The receiver's step"; 02,
-- request 4).
use Rattle.std.specs.Prelude.{ℕ, ◌+◌, ◌-◌, min, Bool, false, cond, leb, ltb, eqb}
use Rattle.std.proofs.Math.Option.{Option, none, some}
use Rattle.delivery.specs.Numbers.{circle, wrapped, next}

-- the distance d of 01: "(sequence minus expected) wrapped"
abbrev pub distance : ℕ → ℕ → ℕ
distance sequence expected = wrapped (sequence + circle - expected)

-- the same from the newest number, which is the one before the expected
abbrev pub from_newest : ℕ → ℕ
from_newest d = next d

-- the limits of RFC 3550, appendix A.1: MAX_DROPOUT and MAX_MISORDER
abbrev pub max_dropout : ℕ
max_dropout = 3000

abbrev pub max_misorder : ℕ
max_misorder = 100

-- what a packet is to a receiver that accepted one before
pub data Course : Type 0 where
  forward : Course
  late : Course
  jump : Course
  break : Course  -- "a jump whose number is the one kept"

-- "Measured from the newest number, 1 to 2,999 is forward; 0, or 65,437 and above, is late; the rest is a jump"; and whether the
-- packet's number is the one kept
abbrev pub course_from : ℕ → Bool → Course
course_from n kept = cond (eqb n 0) late (cond (ltb n max_dropout) forward (cond (leb n (circle - max_misorder)) (cond kept break jump) late))

-- the course at distance d: the one place where it is decided
abbrev pub course_of : ℕ → Bool → Course
course_of d kept = course_from (from_newest d) kept

-- whether a number is the one kept
abbrev pub is_kept : Option ℕ → ℕ → Bool
is_kept none n = false
is_kept (some k) n = eqb n k

-- the course of a packet with this number, to a receiver that expects e and keeps a number or none
abbrev pub course_at : ℕ → Option ℕ → ℕ → Course
course_at e kept sequence = course_of (distance sequence e) (is_kept kept sequence)

-- "loss is d minus r, or 0 if r is larger", at distance d with r older blocks
abbrev pub loss : ℕ → ℕ → ℕ
loss d r = d - r

-- how many older blocks are given: "the last min(d, r)"
abbrev pub wanted : ℕ → ℕ → ℕ
wanted d r = min d r
