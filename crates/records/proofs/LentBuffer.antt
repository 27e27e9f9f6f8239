-- The lent buffer: what reading to the end leaves of it.
use Prim.Native.Nat.{ℕ, ◌+◌, ◌-◌, ◌≤◌}
use mathlib.Core.Path.{◌≡◌, ◌∙◌, refl, ap, sym}
use mathlib.Core.List.{List, [], ◌∷◌, ◌++◌}
use mathlib.Core.Bool.{Bool, true, false, cond, true≢false}
use native.Mathlib.Nat.{le_trans}
use native.Mathlib.Omega.{arith}
use lib.Dec.{ltb, leb, eqb}
use lib.ListN.{length, drop, length-append}
use lib.Seq.{drop-drop, drop-append_seam}
use Rattle.base.specs.Arrays.{over}
use Rattle.base.proofs.Tests.{by_test}
use Rattle.parts.specs.declared.Part.{Part}
use Rattle.parts.specs.declared.Part.TheVariants.{Kind, Types, Red, Length, Low, Piece, Time, Opened, Packet, Ended, Broken}
use Rattle.journal_spec.specs.Contents.{are_zeros}
use Rattle.parts.specs.Bytes.{Reading, read_to, going, byte_at, byte, pieced}
use Rattle.records.specs.Internal.Turns.{lent_after}

-- from here on the pieces only grow until reading stops
abbrev growing : Part → ℕ → List ℕ → Bool
growing Kind size ps = ltb (length ps) size
growing Types size ps = false
growing (Red t140) size ps = false
growing Length size ps = false
growing (Low high) size ps = false
growing (Piece n) size ps = true
growing (Time n) size ps = false
growing (Opened t140 red) size ps = true
growing Packet size ps = true
growing Ended size ps = true
growing Broken size ps = true

abbrev pub Growing : Reading → Type 0
Growing r = growing r.part r.size r.pieces ≡ true

record Grew (n : ℕ) (r : Reading) : Type 0 where
  more : n ≤ length r.pieces
  on : Growing r

-- behind a whole piece the packet goes on or reading stops
pub grows_end : (r : Reading) (ps : List ℕ) → Growing (pieced r ps)
grows_end r ps =
    by_test P (ltb (length ps) r.size) (λ h. h) (λ _. by_test P (are_zeros (drop r.size ps)) (λ _. refl) (λ _. refl))
  where
    P : Part → Type 0
    P q = growing q r.size ps ≡ true

grows_byte : (q : Part) (r : Reading) (b : ℕ) → growing q r.size r.pieces ≡ true → going q ≡ true → Grew (length r.pieces) (byte_at q r b)
grows_byte Kind r b h g = record { more = omega arith; on = rw h (by_test P (eqb b 3) (λ _. refl) (λ _. refl)) }
  where
    P : Part → Type 0
    P q = growing q r.size r.pieces ≡ true
grows_byte (Piece n) r b h g =
    let l : length (r.pieces ++ b ∷ []) ≡ length r.pieces + 1 = length-append r.pieces (b ∷ []) in
    by_test (Grew (length r.pieces)) (leb n 1)
    (λ _. record { more = omega arith; on = grows_end r (r.pieces ++ b ∷ []) })
    (λ _. record { more = omega arith; on = refl })
grows_byte Types r b h g = absurd (true≢false (sym h))
grows_byte (Red t140) r b h g = absurd (true≢false (sym h))
grows_byte Length r b h g = absurd (true≢false (sym h))
grows_byte (Low high) r b h g = absurd (true≢false (sym h))
grows_byte (Time n) r b h g = absurd (true≢false (sym h))
grows_byte (Opened t140 red) r b h g = absurd (true≢false (sym g))
grows_byte Packet r b h g = absurd (true≢false (sym g))
grows_byte Ended r b h g = absurd (true≢false (sym g))
grows_byte Broken r b h g = absurd (true≢false (sym g))

grows : (r : Reading) (s : List ℕ) → Growing r → length r.pieces ≤ length (read_to r s).pieces
unfolding read_to
grows r [] h = omega arith
grows r (b ∷ bs) h = go (going r.part) refl (grows (byte r b) bs)
  where
    go : (x : Bool) → going r.part ≡ x → (Growing (byte r b) → length (byte r b).pieces ≤ length (read_to (byte r b) bs).pieces)
        → length r.pieces ≤ length (cond x (read_to (byte r b) bs) r).pieces
    go true g more = let w = grows_byte r.part r b h g in le_trans w.more (more w.on)
    go false g more = omega arith

pub further : (a k : ℕ) (p p' : List ℕ) → a ≤ k → drop a p' ≡ drop a p → drop k p ≡ drop k p'
further a k p p' h e =
    let i : a + (k - a) ≡ k = omega arith in
    ap (λ (j : ℕ). drop j p) (sym i)
    ∙ sym (drop-drop (k - a) a p)
    ∙ ap (drop (k - a)) (sym e)
    ∙ drop-drop (k - a) a p'
    ∙ ap (λ (j : ℕ). drop j p') i

-- what was put among the pieces is there when reading stops
pub lends_put : (r : Reading) (s p p' : List ℕ) (a : ℕ) → Growing r → length r.pieces ≡ a → drop a p' ≡ drop a p → lent_after r s p ≡ lent_after r s p'
lends_put r s p p' a g l e =
    ap (λ (x : List ℕ). (read_to r s).pieces ++ x) (further a (length (read_to r s).pieces) p p' (omega (arith, grows r s g)) e)

-- behind what lies over both, they are the same
pub lends_all : (a : ℕ) (x p p₀ : List ℕ) → length x ≡ a → over x p₀ ≡ over x p → drop a p ≡ drop a p₀
lends_all a x p p₀ l e =
    ap (λ (k : ℕ). drop k p) (sym l)
    ∙ sym (drop-append_seam x (drop (length x) p))
    ∙ ap (drop (length x)) (sym e)
    ∙ drop-append_seam x (drop (length x) p₀)
    ∙ ap (λ (k : ℕ). drop k p₀) l
