-- Where a payload lies.
use Prim.Native.Nat.{ℕ, ◌-◌, ◌≤◌}
use mathlib.Core.Path.{◌≡◌, refl}
use mathlib.Core.List.{List}
use mathlib.Core.Bool.{Bool, true, false, ◌||◌}
use native.Mathlib.Omega.{arith}
use lib.Dec.{ltb, eqb}
use lib.ListN.{length, get_or}
use borrow.Author.Tests.{ltb-false}
use Rattle.packet_spec.specs.Header.{extension_bit, padding_bit, header_end, padding, padding_bad, payload_end}
use Rattle.base.proofs.Tests.{by_test, or_right}

-- a payload that passes 13 and 14 lies within the packet
pub payload_inside : (p : List ℕ) → ltb (length p) (header_end p) ≡ false → padding_bad p ≡ false → header_end p ≤ payload_end p
payload_inside p h k = go (eqb (padding_bit p) 0) refl
  where
    go : (b : Bool) → eqb (padding_bit p) 0 ≡ b → header_end p ≤ payload_end p
    go true e =
        let l : header_end p ≤ length p = ltb-false _ _ h in
        let z : padding p ≡ 0 = rw e in
        omega arith
    go false e =
        let l : header_end p ≤ length p = ltb-false _ _ h in
        let n : padding p ≡ get_or p (length p - 1) 0 = rw e in
        let f : get_or p (length p - 1) 0 ≤ length p - header_end p =
        ltb-false (length p - header_end p) (get_or p (length p - 1) 0)
        (or_right (eqb (length p) (header_end p) || eqb (get_or p (length p - 1) 0) 0) (ltb (length p - header_end p) (get_or p (length p - 1) 0)) (rw e at k)) in
        omega arith

-- the fixed fields stand before the payload
pub header_long : (p : List ℕ) → 12 ≤ header_end p
header_long p = by_test (λ (n : ℕ). 12 ≤ n) (eqb (extension_bit p) 0) (λ _. omega arith) (λ _. omega arith)
