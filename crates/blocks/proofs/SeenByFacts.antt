-- What is seen of the blocks of a payload, by plain facts.
use Prim.Native.Nat.{ℕ, ◌+◌, ◌-◌, ◌≤◌}
use mathlib.Core.Path.{◌≡◌, ap}
use mathlib.Core.List.{List, []}
use mathlib.Core.Bool.{Bool, cond}
use native.Mathlib.Omega.{arith}
use lib.ListN.{length}
use lib.Seq.{slice, length-slice}
use Rattle.packet_spec.specs.Limits.{level}
use Rattle.packet_spec.specs.Redundancy.{Head, Heads, heads, headers, total}
use Rattle.block_headers.specs.Internal.Seen.{heads_within}
use Rattle.blocks.specs.Internal.Seen.{placed_blocks, seen_behind, blocks_seen_at}
use Rattle.block_headers.proofs.HeadersByFacts as Within

module _ (plain : Bool) (t140 : ℕ) (p : List ℕ) (from end : ℕ) where
  pub behind : (h : Heads) → heads_within plain t140 p from end ≡ h → blocks_seen_at plain t140 p from end ≡ seen_behind end h
  unfolding blocks_seen_at
  behind h e = ap (seen_behind end) e

  pub inside : from ≤ end → end ≤ length p
      → blocks_seen_at plain t140 p from end ≡ seen_behind end (cond plain (heads [] (slice from end p)) (headers t140 level [] (slice from end p)))
  inside h k = behind (cond plain (heads [] (slice from end p)) (headers t140 level [] (slice from end p))) (Within.inside plain t140 p from end h k)

-- blocks from the place where the first lies
pub placed_from : (p : List ℕ) (first end : ℕ) (hs : List Head) → first ≤ end → end ≤ length p
    → record { number = 0; count = length hs; first = first; primary = first + total hs } ≡ placed_blocks end hs (slice first end p)
placed_from p first end hs ahead within =
    let l : length (slice first end p) ≡ end - first = length-slice first end p within in
    let f : first ≡ end - length (slice first end p) = omega arith in
    ap (λ (k : ℕ). record { number = 0; count = length hs; first = k; primary = k + total hs }) f
