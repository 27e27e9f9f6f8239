-- The table of letters: its rows do not overlap and no range is empty, so a byte goes on in one way only.
use Prim.Native.Nat.{ℕ, suc, ◌<◌, ◌≤◌}
use mathlib.Core.Path.{◌≡◌, refl}
use mathlib.Core.List.{List, [], ◌∷◌, Memᴰ}
use mathlib.Core.Bool.{Bool, true, false, cond, ◌&&◌}
use mathlib.Core.Option.{none, some}
use native.Mathlib.Omega.{arith}
use lib.Dec.{leb}
use borrow.Author.Tests.{leb-true}
use Rattle.text_spec.specs.Utf8.{Range, Row, within, rows, begun, owed_after}
use Rattle.text_spec.specs.WellFormed.{Matches, end, byte}
use Rattle.text_spec.proofs.Rows.{inside, above}

-- what follows from an equation of two constructors
pub never : {A : Type 0} → ◌≡◌ {A = ℕ} 0 1 → A
never e = absurd (omega arith)

both : (s t : Bool) → (s && t) ≡ true → (s ≡ true) × (t ≡ true)
both true t e = (refl, e)
both false t e = never cc

pub bounds : (r : Range) (b : ℕ) → within r b ≡ true → (r.low ≤ b) × (b ≤ r.high)
bounds r b e = let p = both (leb r.low b) (leb b r.high) e in (leb-true _ _ p.0, leb-true _ _ p.1)

-- each row begins above the rows before it
abbrev Rising : ℕ → List Row → Type 0
Rising n [] = Unit {0}
Rising n (r ∷ rs) = (n ≤ r.first.low) × (r.first.low ≤ r.first.high) × Rising (suc r.first.high) rs

rising : Rising 0 rows
rising = omega arith

module _ {r : Row} (b : ℕ) (w : within r.first b ≡ true) where
  at_least : (n : ℕ) {rs : List Row} → Rising n rs → Memᴰ r rs → n ≤ b
  at_least n i (Memᴰ.head {x} e) = let h : (x.first.low ≤ b) × (b ≤ x.first.high) = bounds x.first b (rw e at w) in omega arith
  at_least n i (Memᴰ.tail {x} m) = let h : x.first.high < b = at_least _ i.2 m in omega arith

  own_row : (n : ℕ) {rs : List Row} → Rising n rs → Memᴰ r rs → begun rs b ≡ some r.rest
  own_row n i (Memᴰ.head e) = rw (e, rw e at w)
  own_row n i (Memᴰ.tail {x} m) = rw (above b x.first.low x.first.high (at_least _ i.2 m)) (own_row _ i.2 m)

  -- a byte in the first range of a row begins a letter of that row
  pub begins_row : Memᴰ r rows → owed_after [] b ≡ some r.rest
  begins_row m = own_row 0 rising m

-- the row that a byte was found in
pub record Found (rs : List Row) (b : ℕ) (rest : List Range) : Type 0 where
  pub by : Row
  pub listed : Memᴰ by rs
  pub first : within by.first b ≡ true
  pub others : by.rest ≡ rest

found : (rs : List Row) (b : ℕ) {rest : List Range} → begun rs b ≡ some rest → Found rs b rest
found [] b e = never cc
found (r ∷ rs) b {rest} e = go (within r.first b) refl e (λ p. found rs b p)
  where
    go : (t : Bool) → within r.first b ≡ t → cond t (some r.rest) (begun rs b) ≡ some rest
        → (begun rs b ≡ some rest → Found rs b rest) → Found (r ∷ rs) b rest
    go true w e f = record { by = r; listed = Memᴰ.head refl; first = w; others = cc }
    go false w e f = let x = f e in record { by = x.by; listed = Memᴰ.tail x.listed; first = x.first; others = x.others }

-- one byte more: a letter begins, or one that has begun goes on
pub data Step : List Range → ℕ → List Range → Type 0 where
  new : {b : ℕ} {rest : List Range} → Found rows b rest → Step [] b rest
  on : {r : Range} {rs : List Range} {b : ℕ} → within r b ≡ true → Step (r ∷ rs) b rs

pub stepped : (owed : List Range) (b : ℕ) {rest : List Range} → owed_after owed b ≡ some rest → Step owed b rest
stepped [] b e = new (found rows b e)
stepped (r ∷ rs) b {rest} e = go (within r b) refl e
  where
    go : (t : Bool) → within r b ≡ t → cond t (some rs) none ≡ some rest → Step (r ∷ rs) b rest
    go true w e = let p : rest ≡ rs = cc in rw p (on w)
    go false w e = never cc

-- no range is empty
abbrev pub Proper : List Range → Type 0
Proper [] = Unit {0}
Proper (r ∷ rs) = (r.low ≤ r.high) × Proper rs

abbrev AllProper : List Row → Type 0
AllProper [] = Unit {0}
AllProper (r ∷ rs) = Proper r.rest × AllProper rs

all_proper : AllProper rows
all_proper = omega arith

row_proper : {r : Row} {rs : List Row} → AllProper rs → Memᴰ r rs → Proper r.rest
row_proper p (Memᴰ.head e) = rw e p.0
row_proper p (Memᴰ.tail m) = row_proper p.1 m

pub step_proper : {owed : List Range} {b : ℕ} {rest : List Range} → Step owed b rest → Proper owed → Proper rest
step_proper (new x) p = rw x.others at (row_proper all_proper x.listed)
step_proper (on w) p = p.1

-- so what is owed can be paid, by the low byte of each range
pub paid : (rs : List Range) → Proper rs → (l : List ℕ) × Matches rs l
paid [] p = ([], end)
paid (r ∷ rs) p = let (l, x) = paid rs p.1 in (r.low ∷ l, byte (inside r.low r.low r.high (omega arith) p.0) x)
