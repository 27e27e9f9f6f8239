-- What proofs may use of the highest level, whatever it is: it is from 1 to 7.
use Prim.Native.Nat.{◌≤◌}
use native.Mathlib.Omega.{arith}
use Rattle.packet_spec.specs.Limits.{level}

pub level_least : 1 ≤ level
unfolding level
level_least = omega arith

-- a packet with 8 older blocks would not fit: `eight_too_long` in `sender_spec/proofs/Sizes`
pub level_most : level ≤ 7
unfolding level
level_most = omega arith
