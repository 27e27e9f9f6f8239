use Prim.Native.Nat.{ℕ, ◌-◌, ◌*◌, ◌≤◌, ◌<◌}
use mathlib.Core.Path.{◌≡◌}
use mathlib.Core.List.{List, [], map}
use mathlib.Core.Bool.{Bool, ◌&&◌}
use lib.Dec.{ltb}
use lib.ListN.{length}
use lib.Seq.{slice}
use Rattle.packet_spec.specs.Limits.{level}
use Rattle.packet_spec.specs.Redundancy as Heads
use Rattle.packet_spec.specs.Redundancy.{Head, headers}
use Rattle.packet_spec.proofs.Falling.{fall_to}
use Rattle.block_headers.proofs.read_headers.Given as goal

-- what was read, and what is left to read
pub record Got (t140 : ℕ) (p : List ℕ) (from end count at total last : ℕ) (fall : Bool) : Type 0 where
  pub hs : List Head
  pub many : length hs ≡ count
  pub bytes : Heads.total hs ≡ total
  pub ages : (x : ℕ) → x < 16384 → fall_to (map (λ (h : Head). h.offset) hs) x ≡ (fall && ltb x last)
  pub rest : headers t140 level [] (slice from end p) ≡ headers t140 (level - count) hs (slice at end p)

abbrev pub invariant-loop-at : goal.invariant-loop-at
invariant-loop-at l = (l.count ≤ level) × (l.at ≤ l.end) × (l.total ≤ 1023 * l.count) × Got l.t140 l.packet l.from l.end l.count l.at l.total l.last l.fall

abbrev pub decreases-loop-at : goal.decreases-loop-at
decreases-loop-at l = level - l.count
