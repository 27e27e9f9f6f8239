-- Where the blocks of a packet lie, by its places and by the lengths in its block headers.
use Rattle.std.specs.Prelude.{ℕ, zero, suc, ◌+◌, ◌-◌, List, [], cond, ltb, eqb}
use Rattle.base.specs.Arrays.{part}
use Rattle.packet_spec.specs.Limits.{level}
use Rattle.packet.specs.declared.Packet.{Packet}
use Rattle.block_headers.specs.Headers.{head_at}

-- from a place back over so many blocks, whose headers end at another
abbrev pub back : List ℕ → ℕ → ℕ → ℕ → ℕ
back p heads at zero = at
back p heads at (suc n) = back p (heads - 4) (at - (head_at p (heads - 4)).len) n

-- the older blocks' headers end with the primary's, of one byte, right before the oldest block
abbrev pub start_counted_back : List ℕ → ℕ → ℕ → ℕ → ℕ
start_counted_back p first primary n = back p (first - 1) primary n

-- where block k starts: the older blocks, then the primary; behind it, the end
abbrev pub start_of : List ℕ → Packet → ℕ → ℕ
start_of p packet k =
    cond (eqb k 0) packet.first
    (cond (ltb packet.count k) packet.end
    (start_counted_back p packet.first packet.primary (packet.count - k)))

abbrev pub block_of : List ℕ → Packet → ℕ → List ℕ
block_of p packet k = cond (ltb level k) [] (part (start_of p packet k) (start_of p packet (k + 1)) p)
