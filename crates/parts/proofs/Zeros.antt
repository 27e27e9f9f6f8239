-- Laws of a packet's filling.
use Prim.Native.Nat.{ℕ, ◌+◌, ◌-◌, ◌<◌, ◌≤◌}
use mathlib.Core.Path.{◌≡◌, ◌∙◌, refl, ap}
use mathlib.Core.List.{List, [], ◌∷◌}
use mathlib.Core.Bool.{Bool, true, false, cond, ◌&&◌}
use native.Mathlib.Numerals.{add-one}
use borrow.Author.Tests.{le-ltb, eq-eqb, ne_eqb}
use lib.Dec.{eqb}
use lib.ListN.{length, get_or, take, drop, drop_of_length-le}
use lib.Seq.{drop-cons}
use Rattle.parts.specs.declared.Part.TheVariants.{Packet, Broken}
use Rattle.journal_spec.specs.Contents.{are_zeros}
use Rattle.parts.specs.Bytes.{piece_end}
use Rattle.std.specs.List.{list_all}
use Rattle.base.proofs.Slices.{mid_rest}

pub zeros_not : (s : List ℕ) (i : ℕ) → i < length s → (get_or s i 0 ≡ 0 → ⊥) → are_zeros (drop i s) ≡ false
zeros_not s i h n = rw (drop-cons s i 0 h) (rw (ne_eqb (get_or s i 0) 0 n))

pub zeros_more : (s : List ℕ) (i : ℕ) → i < length s → get_or s i 0 ≡ 0 → are_zeros (drop i s) ≡ are_zeros (drop (i + 1) s)
zeros_more s i h e = rw (add-one, drop-cons s i 0 h) (rw (eq-eqb (get_or s i 0) 0 e))

pub zeros_end : (s : List ℕ) (i : ℕ) → length s ≤ i → are_zeros (drop i s) ≡ true
zeros_end s i h = rw (drop_of_length-le s h)

-- behind the last piece, by what was found of the filling
pub end_by : (n : ℕ) (ps : List ℕ) (b : Bool) → n ≤ length ps → b ≡ are_zeros (take (length ps - n) (drop n ps)) → cond b Packet Broken ≡ piece_end n ps
end_by n ps b h e = rw (le-ltb (length ps) n h) (ap (λ (x : Bool). cond x Packet Broken) (e ∙ ap are_zeros (mid_rest n ps)))

-- a test of each byte
pub zeros_all : (s : List ℕ) → list_all (λ b. eqb b 0) s ≡ are_zeros s
zeros_all [] = refl
zeros_all (b ∷ s) =
    elim (eqb b 0) as (λ x. (x && list_all (λ c. eqb c 0) s) ≡ cond x (are_zeros s) false) [ true ↦ zeros_all s | false ↦ refl ]

-- after the last piece, by that test of the filling
pub end_by_test : (n : ℕ) (ps : List ℕ) (b : Bool) → n ≤ length ps → b ≡ list_all (λ x. eqb x 0) (take (length ps - n) (drop n ps)) → cond b Packet Broken ≡ piece_end n ps
end_by_test n ps b h e = end_by n ps b h (e ∙ zeros_all (take (length ps - n) (drop n ps)))
