use Rattle.std.proofs.Common.{◌≡◌, ◌+◌, ◌*◌, ◌≤◌, take, drop}
use Rattle.base.specs.Arrays.{filled}
use Rattle.packet_spec.specs.Redundancy.{total}
use Rattle.packet_spec.specs.Internal.Heads.{heads_in}
use Rattle.boundary.specs.Packets.{none}
use Rattle.boundary.specs.Internal.Places.{head_places}
use Rattle.boundary.proofs.packets.older_at.Given as goal

abbrev pub invariant-loop-k : goal.invariant-loop-k
invariant-loop-k l =
    (l.at ≤ l.first + 1023 * l.k) × (l.at ≡ l.first + total (take l.k (heads_in l.count (drop l.from l.bytes))))
    × (l.block-items ≡ filled none l.count (head_places l.first (take l.k (heads_in l.count (drop l.from l.bytes)))))
