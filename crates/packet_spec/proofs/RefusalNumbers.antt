-- A reading that is refused has a number of 01, never 0.
use Prim.Native.Nat.{ℕ, zero, suc, ◌-◌, ◌≤◌}
use mathlib.Core.List.{List, [], ◌∷◌, ◌++◌}
use mathlib.Core.Bool.{Bool, cond}
use native.Mathlib.Omega.{arith}
use lib.Dec.{ltb, eqb}
use lib.ListN.{length, get_or, drop}
use borrow.Author.Rules.{rules}
use Rattle.base.specs.Checks.{Check, checked}
use Rattle.packet_spec.specs.Header.{Expected, payload_type, payload}
use Rattle.packet_spec.specs.Redundancy.{Head, Heads, heads, bad, head_of, header, headers}
use Rattle.packet_spec.specs.Reading.{Read, holds, refused, header_checks, heads_of, content, block_checks, blocks_read, reading}
use Rattle.base.proofs.InOrder as checks
use Rattle.base.proofs.Tests.{by_test}

abbrev pub Positive : Read → Type 0
Positive (holds c) = Unit {0}
Positive (refused n) = 1 ≤ n

abbrev pub HeadsPositive : Heads → Type 0
HeadsPositive (heads hs s) = Unit {0}
HeadsPositive (bad n) = 1 ≤ n

in_order : (ks : List Check) (x : Read) → checks.Positive ks → Positive x → Positive (checked refused ks x)
in_order [] x a p = p
in_order (k ∷ ks) x a p = by_test Positive k.applies {x = refused k.number} (λ _. a.0) (λ _. in_order ks x a.1 p)

header_positive : (t : ℕ) (got : List Head) (m : List ℕ) (older : Heads) → HeadsPositive older → HeadsPositive (header t got m older)
header_positive t got [] older o = omega arith
header_positive t got (b ∷ bs) older o =
    by_test HeadsPositive (ltb b 128)
    (λ _. by_test HeadsPositive (eqb b t) {x = heads got bs} {y = bad 19} (λ _. tt) (λ _. omega arith))
    (λ _. o)

headers_positive : (t more : ℕ) (got : List Head) (m : List ℕ) → HeadsPositive (headers t more got m)
unfolding headers
headers_positive t zero got m = header_positive t got m (bad 18) (omega arith)
headers_positive t (suc more) got m =
    header_positive t got m _
    (by_test HeadsPositive (ltb (length m) 4) {x = bad 17} (λ _. omega arith)
    (λ _. by_test HeadsPositive (eqb (get_or m 0 0 - 128) t) {y = bad 19}
    (λ _. headers_positive t more (got ++ (head_of m ∷ [])) (drop 4 m))
    (λ _. omega arith)))

-- of a plain payload, or of one with headers
pub heads_positive : (n t : ℕ) (plain : Bool) (m : List ℕ) → HeadsPositive (cond plain (heads [] m) (headers t n [] m))
heads_positive n t plain m = by_test HeadsPositive plain {x = heads [] m} (λ _. tt) (λ _. headers_positive t n [] m)

blocks_positive : (p : List ℕ) (h : Heads) → HeadsPositive h → Positive (blocks_read p h)
blocks_positive p (bad n) k = k
blocks_positive p (heads hs s) k = in_order (block_checks hs s) (holds (content p hs s)) (search rules) tt

pub reading_positive : (n : ℕ) (expected : Expected) (t140 red : ℕ) (p : List ℕ) → Positive (reading n expected t140 red p)
unfolding reading
reading_positive n expected t140 red p =
    in_order (header_checks expected t140 red p) (blocks_read p (heads_of n t140 p))
    (search rules)
    (blocks_positive p (heads_of n t140 p) (heads_positive n t140 (eqb (payload_type p) t140) (payload p)))
