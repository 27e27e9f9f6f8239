-- Laws of reading a journal byte by byte.
use Prim.Native.Nat.{ℕ, zero, suc, ◌-◌, ◌<◌, ◌≤◌}
use mathlib.Core.Path.{◌≡◌, ◌∙◌, refl}
use mathlib.Core.List.{List, [], ◌∷◌, ◌++◌, append_assoc, append-nil}
use mathlib.Core.Bool.{true}
use native.Mathlib.Omega.{arith}
use native.Mathlib.Nat.{not-suc-le-zero}
use borrow.Author.Tests.{lt-leb, le-leb}
use lib.ListN.{length, get_or, take, drop, take-append-drop}
use lib.Seq.{length-take-le}
use Rattle.parts.specs.declared.Part.TheVariants.{Kind, Time}
use Rattle.parts.specs.Bytes.{Reading, read_to, unread, going, byte, in_piece, pieced, at}

-- reading r in s goes on as reading r' in s'
pub record Moves (r : Reading) (s : List ℕ) (r' : Reading) (s' : List ℕ) : Type 0 where
  pub to : read_to r s ≡ read_to r' s'
  pub left : unread r s ≡ unread r' s'

pub and_then : {r r' r'' : Reading} {s s' s'' : List ℕ} → Moves r s r' s' → Moves r' s' r'' s'' → Moves r s r'' s''
and_then a b = record { to = a.to ∙ b.to; left = a.left ∙ b.left }

pub stays : {r : Reading} {s : List ℕ} → Moves r s r s
stays = record { to = refl; left = refl }

pub step : (r : Reading) (b : ℕ) (bs : List ℕ) → going r.part ≡ true → Moves r (b ∷ bs) (byte r b) bs
unfolding read_to unread
step r b bs g = record { to = simp g; left = simp g }

-- the first byte of s
pub first : (r : Reading) (s : List ℕ) → 0 < length s → going r.part ≡ true → Moves r s (byte r (get_or s 0 0)) (drop 1 s)
first r [] h g = absurd (not-suc-le-zero h)
first r (b ∷ bs) h g = step r b bs g

piece_byte : (r : Reading) (n : ℕ) (ps : List ℕ) (b : ℕ) (bs : List ℕ) → 1 < n
    → Moves (in_piece r n ps) (b ∷ bs) (in_piece r (n - 1) (ps ++ b ∷ [])) bs
piece_byte r n ps b bs h = rw (lt-leb n 1 h) at (step (in_piece r n ps) b bs refl)

piece_some : (r : Reading) (n : ℕ) (ps xs ys : List ℕ) → length xs < n
    → Moves (in_piece r n ps) (xs ++ ys) (in_piece r (n - length xs) (ps ++ xs)) ys
piece_some r n ps [] ys h = let e : n - 0 ≡ n = omega arith in rw (append-nil, e) stays
piece_some r n ps (x ∷ xs) ys h =
    let e : n - 1 - length xs ≡ n - suc (length xs) = omega arith in
    and_then (piece_byte r n ps x (xs ++ ys) (omega arith))
    (rw (e, append_assoc) at (piece_some r (n - 1) (ps ++ x ∷ []) xs ys (omega arith)))

pub piece_all : (r : Reading) (n : ℕ) (ps : List ℕ) (x : ℕ) (xs ys : List ℕ) → suc (length xs) ≡ n
    → Moves (in_piece r n ps) (x ∷ xs ++ ys) (pieced r (ps ++ x ∷ xs)) ys
piece_all r n ps x [] ys h = rw (le-leb n 1 (omega arith)) at (step (in_piece r n ps) x ys refl)
piece_all r n ps x (y ∷ xs) ys h =
    and_then (piece_byte r n ps x (y ∷ xs ++ ys) (omega arith))
    (rw append_assoc at (piece_all r (n - 1) (ps ++ x ∷ []) y xs ys (omega arith)))

none : {m n : ℕ} → m ≤ 0 → m ≡ n → 1 ≤ n → ⊥
none a b c = omega arith

none' : {n : ℕ} → 0 ≡ n → 1 ≤ n → ⊥
none' b c = omega arith

-- m bytes of s in a piece, some or all of those to come
pub piece_part : (r : Reading) (n : ℕ) (ps s : List ℕ) (m : ℕ) → m ≤ length s → m < n
    → Moves (in_piece r n ps) s (in_piece r (n - m) (ps ++ take m s)) (drop m s)
piece_part r n ps s m i h =
    let e : length (take m s) ≡ m = length-take-le m s i in
    rw (take-append-drop, e) at (piece_some r n ps (take m s) (drop m s) (omega arith))

pub piece_end_lem : (r : Reading) (n : ℕ) (ps s : List ℕ) (m : ℕ) → m ≤ length s → m ≡ n → 1 ≤ n
    → Moves (in_piece r n ps) s (pieced r (ps ++ take m s)) (drop m s)
piece_end_lem r n ps [] m i h k = absurd (none i h k)
piece_end_lem r n ps (x ∷ xs) zero i h k = absurd (none' h k)
piece_end_lem r n ps (x ∷ xs) (suc m) i h k =
    let e : length (take m xs) ≡ m = length-take-le m xs (omega arith) in
    rw (take-append-drop m xs) at (piece_all r n ps x (take m xs) (drop m xs) (omega arith))

time_byte : (r : Reading) (n b : ℕ) (bs : List ℕ) → 1 < n → Moves (at r (Time n)) (b ∷ bs) (at r (Time (n - 1))) bs
time_byte r n b bs h = rw (lt-leb n 1 h) at (step (at r (Time n)) b bs refl)

time_some : (r : Reading) (n : ℕ) (xs ys : List ℕ) → length xs < n → Moves (at r (Time n)) (xs ++ ys) (at r (Time (n - length xs))) ys
time_some r n [] ys h = let e : n - 0 ≡ n = omega arith in rw e stays
time_some r n (x ∷ xs) ys h =
    let e : n - 1 - length xs ≡ n - suc (length xs) = omega arith in
    and_then (time_byte r n x (xs ++ ys) (omega arith)) (rw e at (time_some r (n - 1) xs ys (omega arith)))

time_all : (r : Reading) (n : ℕ) (x : ℕ) (xs ys : List ℕ) → suc (length xs) ≡ n → Moves (at r (Time n)) (x ∷ xs ++ ys) (at r Kind) ys
time_all r n x [] ys h = rw (le-leb n 1 (omega arith)) at (step (at r (Time n)) x ys refl)
time_all r n x (y ∷ xs) ys h = and_then (time_byte r n x (y ∷ xs ++ ys) (omega arith)) (time_all r (n - 1) y xs ys (omega arith))

-- m bytes of s in a time, some or all of those to come
pub time_part : (r : Reading) (n : ℕ) (s : List ℕ) (m : ℕ) → m ≤ length s → m < n → Moves (at r (Time n)) s (at r (Time (n - m))) (drop m s)
time_part r n s m i h =
    let e : length (take m s) ≡ m = length-take-le m s i in
    rw (take-append-drop, e) at (time_some r n (take m s) (drop m s) (omega arith))

pub time_end : (r : Reading) (n : ℕ) (s : List ℕ) (m : ℕ) → m ≤ length s → m ≡ n → 1 ≤ n → Moves (at r (Time n)) s (at r Kind) (drop m s)
time_end r n [] m i h k = absurd (none i h k)
time_end r n (x ∷ xs) zero i h k = absurd (none' h k)
time_end r n (x ∷ xs) (suc m) i h k =
    let e : length (take m xs) ≡ m = length-take-le m xs (omega arith) in
    rw (take-append-drop m xs) at (time_all r n x (take m xs) (drop m xs) (omega arith))
