-- What is told from within a record, by whether the rest of its body is there.
use Prim.Native.Nat.{ℕ, zero, suc}
use mathlib.Core.Path.{◌≡◌, ◌∙◌, refl, ap}
use mathlib.Core.List.{List, [], ◌∷◌, ◌++◌, append_assoc}
use mathlib.Core.Bool.{Bool, true, false, cond}
use native.Mathlib.Omega.{arith}
use native.Mathlib.Numerals.{unary_clauses}
use borrow.Author.Tests.{ltb-true, ltb-false, lt-ltb, le-ltb, lt-leb}
use lib.Dec.{ltb}
use lib.ListN.{length, take, drop, get_or}
use Rattle.parts.specs.declared.Part.{Part}
use Rattle.parts.specs.declared.Part.TheVariants.{Kind, Types, Red, Length, Low, Piece, Time, Opened, Broken}
use Rattle.packet_spec.specs.Header.{types_bad, be16}
use Rattle.journal_spec.specs.Contents.{Contents, breaks}
use Rattle.parts.specs.Bytes.{Reading, at, record_begun, pieced, byte, past, telling, tells}

abbrev pub reading : Bool → Part → ℕ → List ℕ → Reading
reading o q n ps = record { opened = o; part = q; size = n; pieces = ps }

-- what is told at a reading, and of the bytes behind it
abbrev pub onward : Reading → List ℕ → Contents
onward r j = telling r.part r (tells (past r.part r) j)

pub tells_nil : (r : Reading) → tells r [] ≡ breaks
unfolding tells
tells_nil r = refl

pub tells_cons : (r : Reading) (b : ℕ) (j : List ℕ) → tells r (b ∷ j) ≡ onward (byte r b) j
unfolding tells
tells_cons r b j = refl

ltb_suc : (a b : ℕ) → ltb (suc a) (suc b) ≡ ltb a b
ltb_suc a b = go (ltb a b) refl
  where
    go : (x : Bool) → ltb a b ≡ x → ltb (suc a) (suc b) ≡ x
    go true h = lt-ltb (suc a) (suc b) (omega (arith, ltb-true a b h))
    go false h = le-ltb (suc a) (suc b) (omega (arith, ltb-false a b h))

-- a byte within a time, and within a piece
time_byte : (o : Bool) (n m : ℕ) (ps : List ℕ) (b : ℕ) → byte (reading o (Time (suc (suc m))) n ps) b ≡ reading o (Time (suc m)) n ps
time_byte o n m ps b = rw (lt-leb (suc (suc m)) 1 (omega arith)) (simp unary_clauses refl)

piece_byte : (o : Bool) (n m : ℕ) (ps : List ℕ) (b : ℕ) → byte (reading o (Piece (suc (suc m))) n ps) b ≡ reading o (Piece (suc m)) n (ps ++ b ∷ [])
piece_byte o n m ps b = rw (lt-leb (suc (suc m)) 1 (omega arith)) (simp unary_clauses refl)

-- a time under way
pub timed : (o : Bool) (n m : ℕ) (ps j : List ℕ)
    → tells (reading o (Time (suc m)) n ps) j ≡ cond (ltb (length j) (suc m)) breaks (tells (reading o Kind n ps) (drop (suc m) j))
timed o n m ps [] = rw (lt-ltb 0 (suc m) (omega arith)) (tells_nil (reading o (Time (suc m)) n ps))
timed o n zero ps (b ∷ j) = rw (le-ltb (suc (length j)) 1 (omega arith)) (tells_cons (reading o (Time 1) n ps) b j)
timed o n (suc m) ps (b ∷ j) =
    rw (ltb_suc (length j) (suc m))
    (tells_cons (reading o (Time (suc (suc m))) n ps) b j ∙ ap (λ (r : Reading). onward r j) (time_byte o n m ps b) ∙ timed o n m ps j)

-- a piece under way
pub gathered : (o : Bool) (n m : ℕ) (ps j : List ℕ)
    → tells (reading o (Piece (suc m)) n ps) j
    ≡ cond (ltb (length j) (suc m)) breaks (onward (pieced (reading o Kind n ps) (ps ++ take (suc m) j)) (drop (suc m) j))
gathered o n m ps [] = rw (lt-ltb 0 (suc m) (omega arith)) (tells_nil (reading o (Piece (suc m)) n ps))
gathered o n zero ps (b ∷ j) = rw (le-ltb (suc (length j)) 1 (omega arith)) (tells_cons (reading o (Piece 1) n ps) b j)
gathered o n (suc m) ps (b ∷ j) =
    rw (ltb_suc (length j) (suc m))
    (tells_cons (reading o (Piece (suc (suc m))) n ps) b j ∙ ap (λ (r : Reading). onward r j) (piece_byte o n m ps b)
    ∙ gathered o n m (ps ++ b ∷ []) j
    ∙ ap (λ (x : List ℕ). cond (ltb (length j) (suc m)) breaks (onward (pieced (reading o Kind n ps) x) (drop (suc m) j)))
    (append_assoc ps (b ∷ []) (take (suc m) j)))

-- two bytes of an open, and of a packet's length
pub typed : (o : Bool) (n : ℕ) (ps j : List ℕ)
    → tells (reading o Types n ps) j
    ≡ cond (ltb (length j) 2) breaks
    (onward (at (reading o Kind n ps) (cond (types_bad (get_or j 0 0) (get_or j 1 0)) Broken (Opened (get_or j 0 0) (get_or j 1 0)))) (drop 2 j))
typed o n ps [] = tells_nil (reading o Types n ps)
typed o n ps (a ∷ []) = tells_cons (reading o Types n ps) a [] ∙ tells_nil (reading o (Red a) n ps)
typed o n ps (a ∷ b ∷ j) =
    rw (le-ltb (suc (suc (length j))) 2 (omega arith))
    (tells_cons (reading o Types n ps) a (b ∷ j) ∙ tells_cons (reading o (Red a) n ps) b j)

pub sized : (o : Bool) (n : ℕ) (ps j : List ℕ)
    → tells (reading o Length n ps) j
    ≡ cond (ltb (length j) 2) breaks (onward (record_begun (reading o Kind n ps) (be16 j 0)) (drop 2 j))
sized o n ps [] = tells_nil (reading o Length n ps)
sized o n ps (a ∷ []) = tells_cons (reading o Length n ps) a [] ∙ tells_nil (reading o (Low a) n ps)
sized o n ps (a ∷ b ∷ j) =
    rw (le-ltb (suc (suc (length j))) 2 (omega arith))
    (tells_cons (reading o Length n ps) a (b ∷ j) ∙ tells_cons (reading o (Low a) n ps) b j)
