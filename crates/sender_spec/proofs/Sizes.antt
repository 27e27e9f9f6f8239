-- How long a packet is: at up to 7 older blocks it is no longer than one that is read.
use Prim.Native.Nat.{ℕ, ◌+◌, ◌*◌, ◌≤◌, ◌<◌}
use mathlib.Core.Path.{◌≡◌, refl}
use mathlib.Core.List.{List, [], ◌∷◌}
use native.Mathlib.Omega.{arith}
use lib.ListN.{length, length-append}
use Rattle.packet_spec.specs.Limits.{longest, level}
use Rattle.packet_spec.specs.Redundancy.{Block, blocks_of, joined}
use Rattle.packet_spec.specs.Reading.{Content}
use Rattle.packet_spec.specs.Encoding.{heads_bytes, plain_bytes, redundant_bytes}
use Rattle.sender_spec.specs.Limits.{room_size, longest_written}
use Rattle.base.specs.Every.{Every}
use Rattle.packet_spec.proofs.Limits.{level_most}
use Rattle.packet_spec.proofs.ReadBack.{LengthsFit}

-- a block as long as the sender writes
abbrev pub Short : Block → Type 0
Short b = length b.bytes ≤ room_size

-- the longest ones
abbrev pub Full : Block → Type 0
Full b = length b.bytes ≡ room_size

pub heads_size : (t140 : ℕ) (bs : List Block) → length (heads_bytes t140 bs) ≡ 4 * length bs + 1
heads_size t140 [] = refl
heads_size t140 (b ∷ bs) = omega (arith, heads_size t140 bs)

body_size : (bs : List Block) (x : List ℕ) → Every Short bs → length (joined (blocks_of bs x)) ≤ room_size * length bs + length x
body_size [] x e = omega (arith, length-append x [])
body_size (b ∷ bs) x e = omega (arith, e.0, body_size bs x e.1, length-append b.bytes (joined (blocks_of bs x)))

pub plain_size : (r t140 : ℕ) (c : Content) → length c.primary ≤ room_size → length (plain_bytes t140 c) ≤ longest_written r
plain_size r t140 c h = omega arith

pub redundant_size : (r t140 red : ℕ) (c : Content) → length c.older ≤ r → Every Short c.older → length c.primary ≤ room_size
    → length (redundant_bytes t140 red c) ≤ longest_written r
redundant_size r t140 red c few e h =
    let body = joined (blocks_of c.older c.primary) in
    omega (arith, heads_size t140 c.older, body_size c.older c.primary e, length-append (heads_bytes t140 c.older) body)

-- a packet of full blocks is so long
full_body : (bs : List Block) (x : List ℕ) → Every Full bs → length x ≡ room_size → length (joined (blocks_of bs x)) ≡ room_size * (length bs + 1)
full_body [] x e h = omega (arith, length-append x [])
full_body (b ∷ bs) x e h = omega (arith, e.0, full_body bs x e.1 h, length-append b.bytes (joined (blocks_of bs x)))

pub full_size : (t140 red : ℕ) (c : Content) → Every Full c.older → length c.primary ≡ room_size
    → length (redundant_bytes t140 red c) ≡ longest_written (length c.older)
full_size t140 red c e h =
    let body = joined (blocks_of c.older c.primary) in
    omega (arith, heads_size t140 c.older, full_body c.older c.primary e h, length-append (heads_bytes t140 c.older) body)

-- at the highest level such a packet is still read; one of 8 older blocks would have 1,485 bytes
pub level_fits : longest_written level ≤ longest
level_fits = omega (arith, level_most)

pub eight_too_long : (longest_written 8 ≡ 1485) × (longest < longest_written 8)
eight_too_long = (refl, omega arith)

pub lengths_fit : (bs : List Block) → Every Short bs → LengthsFit bs
lengths_fit [] e = tt
lengths_fit (b ∷ bs) e = (omega (arith, e.0), lengths_fit bs e.1)
