-- Laws of the pieces with which records begin, and of their bytes one behind the other.
use Prim.Native.Nat.{ℕ, zero, suc, ◌+◌, ◌-◌, ◌*◌, ◌<◌, ◌≤◌}
use mathlib.Core.Path.{◌≡◌, ◌∙◌, refl, ap, sym}
use mathlib.Core.List.{List, [], ◌∷◌, ◌++◌, append_assoc, append-nil}
use mathlib.Core.Bool.{Bool, true, false, cond, true≢false}
use native.Mathlib.Omega.{arith}
use borrow.Author.Tests.{lt-ltb, le-ltb, ltb-true, ltb-false, eqb-true, eqb-false, ne_eqb}
use borrow.Rule.Slice.PartMut.{put_mid, mid_of}
use lib.Dec.{ltb, eqb}
use lib.ListN.{length, get_or, take, drop, drop_of_length-le, length-append, length-drop}
use lib.Seq.{take-take, take-length, length-take-le, drop-drop, get_or-drop, paste, take-append_seam, drop-append_seam}
use Rattle.base.specs.Arrays.{over}
use Rattle.base.proofs.Pasted.{put}
use Rattle.packet_spec.specs.Redundancy.{joined}
use Rattle.packet_spec.specs.Header.{be16}
use Rattle.journal_spec.specs.Records.{Record, ending, opening, beginning, piece, time, bad, piece_length, body_length, first_of, records_up_to}
use Rattle.pieces.specs.Internal.Pieces.{leading, pieces_first}

-- by way of z
pub put_by : (p s z w ys p' : List ℕ) (from a : ℕ) → from + 16 ≤ length s → a + 16 ≤ length p → length z ≡ 16
    → w ≡ take (length (take (from + 16 - from) (drop from s))) (take (from + 16 - from) (drop from s)) ++ drop (length (take (from + 16 - from) (drop from s))) z
    → ys ≡ take (length w) w ++ drop (length w) (mid_of a (length p - a) p) → p' ≡ put_mid a (length p - a) p ys
    → p' ≡ paste p a (drop from s) 16
put_by p s z w ys p' from a h k l e f g =
    let n : from + 16 - from ≡ 16 = omega arith in
    let x = take (from + 16 - from) (drop from s) in
    let m : length x ≡ 16 = length-take-le (from + 16 - from) (drop from s) (omega (arith, length-drop from s)) ∙ n in
    let lz : length z ≤ length x = omega arith in
    let i : w ≡ x =
    e
    ∙ ap (λ (y : List ℕ). y ++ drop (length x) z) (take-length x)
    ∙ ap (λ (y : List ℕ). x ++ y) (drop_of_length-le z lz)
    ∙ append-nil x in
    let j : take 16 w ≡ take 16 (drop from s) =
    ap (take 16) (i ∙ ap (λ (y : ℕ). take y (drop from s)) n) ∙ take-take 16 16 (drop from s) (omega arith) in
    put p w ys p' a 16 k (ap length i ∙ m) f g ∙ ap (λ (y : List ℕ). take a p ++ y ++ drop (a + 16) p) j

-- a record of another kind, whole or not
other : (kind : ℕ) (rest : List ℕ) (rs : List Record) → eqb kind 3 ≡ false → leading (first_of kind rest ∷ rs) ≡ []
other kind rest rs h = go (ltb (length rest) (body_length kind)) (eqb kind 0) (eqb kind 1) (eqb kind 2) (eqb kind 3) (eqb kind 4) (take (body_length kind) rest) h
  where
    go : (short k0 k1 k2 k3 k4 : Bool) (body : List ℕ) → k3 ≡ false
        → leading (cond short bad (cond k0 ending (cond k1 (opening (get_or body 0 0) (get_or body 1 0))
        (cond k2 (beginning (be16 body 0)) (cond k3 (piece body) (cond k4 time bad))))) ∷ rs) ≡ []
    go true k0 k1 k2 k3 k4 body e = refl
    go false true k1 k2 k3 k4 body e = refl
    go false false true k2 k3 k4 body e = refl
    go false false false true k3 k4 body e = refl
    go false false false false true k4 body e = absurd (true≢false e)
    go false false false false false true body e = refl
    go false false false false false false body e = refl

-- no piece stands first
pub other_first : (n : ℕ) (s : List ℕ) → (get_or s 0 0 ≡ 3 → ⊥) → pieces_first n s ≡ []
unfolding records_up_to
other_first zero s h = refl
other_first (suc n) [] h = refl
other_first (suc n) (kind ∷ rest) h = other kind rest (records_up_to n (drop (body_length kind) rest)) (ne_eqb kind 3 h)

-- or it is cut short
pub short_first : (n : ℕ) (s : List ℕ) → length s ≤ piece_length → pieces_first n s ≡ []
unfolding records_up_to
short_first zero s h = refl
short_first (suc n) [] h = refl
short_first (suc n) (kind ∷ rest) h = go (eqb kind 3) refl
  where
    go : (b : Bool) → eqb kind 3 ≡ b → leading (first_of kind rest ∷ records_up_to n (drop (body_length kind) rest)) ≡ []
    go false e = other kind rest (records_up_to n (drop (body_length kind) rest)) e
    go true e =
        let k : kind ≡ 3 = eqb-true kind 3 e in
        let l : ltb (length rest) 16 ≡ true = lt-ltb (length rest) 16 (omega arith) in
        rw k (rw l)

-- one does
pub piece_first : (n : ℕ) (s : List ℕ) → piece_length < length s → get_or s 0 0 ≡ 3 → pieces_first (suc n) s ≡ take 16 (drop 1 s) ∷ pieces_first n (drop 17 s)
unfolding records_up_to
piece_first n [] h e = absurd (omega arith)
piece_first n (kind ∷ rest) h e = rw e (rw (le-ltb (length rest) 16 (omega arith)))

-- so many are put over the front of p₀
pub record Gathered (n : ℕ) (s p₀ : List ℕ) (count : ℕ) (p : List ℕ) : Type 0 where
  pub pieces : List (List ℕ)
  pub told : pieces_first n s ≡ pieces ++ pieces_first (n - count) (drop (17 * count) s)
  pub number : length pieces ≡ count
  pub long : length (joined pieces) ≡ 16 * count
  pub stands : p ≡ over (joined pieces) p₀

pub none_yet : (n : ℕ) (s p : List ℕ) → Gathered n s p 0 p
none_yet n s p = record { pieces = []; told = let z : n - 0 ≡ n = omega arith in rw z; number = refl; long = refl; stands = refl }

joined_append : (xs : List (List ℕ)) (x : List ℕ) → joined (xs ++ (x ∷ [])) ≡ joined xs ++ x
joined_append [] x = append-nil x
joined_append (y ∷ xs) x = ap (λ (l : List ℕ). y ++ l) (joined_append xs x) ∙ sym (append_assoc y (joined xs) x)

module _ (n : ℕ) (s p₀ : List ℕ) (count : ℕ) (p : List ℕ) (g : Gathered n s p₀ count p) where
  -- all that there are
  all : pieces_first (n - count) (drop (17 * count) s) ≡ [] → pieces_first n s ≡ g.pieces
  all h = g.told ∙ ap (λ (l : List (List ℕ)). g.pieces ++ l) h ∙ append-nil g.pieces

  abbrev Done : Type 0
  Done = (count ≡ length (pieces_first n s)) × (p ≡ over (joined (pieces_first n s)) p₀)

  done : pieces_first (n - count) (drop (17 * count) s) ≡ [] → Done
  done h = (sym (ap length (all h) ∙ g.number), g.stands ∙ ap (λ (l : List (List ℕ)). over (joined l) p₀) (sym (all h)))

  pub no_room : n ≤ count → Done
  unfolding records_up_to
  no_room h = done (let z : n - count ≡ 0 = omega arith in rw z (nothing (drop (17 * count) s)))
    where
      nothing : (t : List ℕ) → pieces_first 0 t ≡ []
      nothing t = refl

  pub cut_short : length s - 17 * count ≤ piece_length → Done
  cut_short h = done (short_first (n - count) (drop (17 * count) s) (omega (arith, length-drop (17 * count) s)))

  pub other_kind : (get_or s (17 * count) 0 ≡ 3 → ⊥) → Done
  other_kind h = done (other_first (n - count) (drop (17 * count) s) (λ e. h (sym (kind_at (17 * count)) ∙ e)))
    where
      kind_at : (k : ℕ) → get_or (drop k s) 0 0 ≡ get_or s k 0
      kind_at k = let z : k + 0 ≡ k = omega arith in get_or-drop k s 0 0 ∙ ap (λ (j : ℕ). get_or s j 0) z

  module _ (room : count < n) (fit : 16 * count + 16 ≤ length p₀) (there : piece_length < length s - 17 * count) (kind : get_or s (17 * count) 0 ≡ 3)
      (p' : List ℕ) (e : p' ≡ paste p (16 * count) (drop (17 * count + 1) s) 16) where
    abbrev x : List ℕ
    x = take 16 (drop (17 * count + 1) s)

    x_long : length x ≡ 16
    x_long = length-take-le 16 (drop (17 * count + 1) s) (omega (arith, length-drop (17 * count + 1) s))

    rest_is : pieces_first (n - count) (drop (17 * count) s) ≡ x ∷ pieces_first (n - (count + 1)) (drop (17 * (count + 1)) s)
    rest_is =
        let m : n - count ≡ suc (n - (count + 1)) = omega arith in
        let z : 17 * count + 0 ≡ 17 * count = omega arith in
        let k : 17 * count + 17 ≡ 17 * (count + 1) = omega arith in
        ap (λ (j : ℕ). pieces_first j (drop (17 * count) s)) m
        ∙ piece_first (n - (count + 1)) (drop (17 * count) s) (omega (arith, length-drop (17 * count) s))
        (get_or-drop (17 * count) s 0 0 ∙ ap (λ (j : ℕ). get_or s j 0) z ∙ kind)
        ∙ ap (λ (l : List ℕ). take 16 l ∷ pieces_first (n - (count + 1)) (drop 17 (drop (17 * count) s))) (drop-drop 1 (17 * count) s)
        ∙ ap (λ (l : List ℕ). x ∷ pieces_first (n - (count + 1)) l) (drop-drop 17 (17 * count) s ∙ ap (λ (j : ℕ). drop j s) k)

    put_is : p' ≡ over (joined g.pieces ++ x) p₀
    put_is =
        let w = joined g.pieces in
        let l : 16 * count ≡ length w = sym g.long in
        let t : length (w ++ x) ≡ length w + 16 = length-append w x ∙ ap (λ (j : ℕ). length w + j) x_long in
        let a : take (16 * count) p ≡ w = (λ i. take (l i) (g.stands i)) ∙ take-append_seam w (drop (length w) p₀) in
        let d : drop (16 * count + 16) p ≡ drop (length (w ++ x)) p₀ =
        sym (drop-drop 16 (16 * count) p) ∙ ap (drop 16) ((λ i. drop (l i) (g.stands i)) ∙ drop-append_seam w (drop (length w) p₀))
        ∙ drop-drop 16 (length w) p₀ ∙ ap (λ (j : ℕ). drop j p₀) (sym t) in
        e ∙ (λ i. a i ++ x ++ d i)

    pub one_more : Gathered n s p₀ (count + 1) p'
    one_more = record {
      pieces = g.pieces ++ (x ∷ []);
      told = g.told ∙ ap (λ (l : List (List ℕ)). g.pieces ++ l) rest_is
          ∙ sym (append_assoc g.pieces (x ∷ []) (pieces_first (n - (count + 1)) (drop (17 * (count + 1)) s)));
      number = length-append g.pieces (x ∷ []) ∙ ap (λ (k : ℕ). k + 1) g.number;
      long = ap length (joined_append g.pieces x) ∙ length-append (joined g.pieces) x ∙ omega (arith, g.long, x_long);
      stands = put_is ∙ ap (λ (l : List ℕ). over l p₀) (sym (joined_append g.pieces x));
    }

-- the record that stands at place k: its first byte, and its other ones put into p
pub front_kind : (k : ℕ) (s : List ℕ) → get_or (take 17 (drop k s)) 0 0 ≡ get_or s k 0
front_kind k s = let z : k + 0 ≡ k = omega arith in first (drop k s) ∙ get_or-drop k s 0 0 ∙ ap (λ (j : ℕ). get_or s j 0) z
  where
    first : (x : List ℕ) → get_or (take 17 x) 0 0 ≡ get_or x 0 0
    first [] = refl
    first (b ∷ x) = refl

pub front_put : (k : ℕ) (s p : List ℕ) (a : ℕ) → paste p a (drop 1 (take 17 (drop k s))) 16 ≡ paste p a (drop (k + 1) s) 16
front_put k s p a = ap (λ (x : List ℕ). take a p ++ x ++ drop (a + 16) p) (behind (drop k s) ∙ ap (take 16) (drop-drop 1 k s))
  where
    behind : (x : List ℕ) → take 16 (drop 1 (take 17 x)) ≡ take 16 (drop 1 x)
    behind [] = refl
    behind (b ∷ x) = take-take 16 16 x (omega arith)

-- what stands first
pub data First (n : ℕ) (s : List ℕ) : Type 0 where
  no : pieces_first (suc n) s ≡ [] → First n s
  one : get_or s 0 0 ≡ 3 → 17 ≤ length s → pieces_first (suc n) s ≡ take 16 (drop 1 s) ∷ pieces_first n (drop 17 s) → First n s

pub first_is : (n : ℕ) (s : List ℕ) → First n s
first_is n s = go (ltb 16 (length s)) refl (eqb (get_or s 0 0) 3) refl
  where
    go : (a : Bool) → ltb 16 (length s) ≡ a → (b : Bool) → eqb (get_or s 0 0) 3 ≡ b → First n s
    go true e true f =
        let l : 16 < length s = ltb-true 16 (length s) e in
        one (eqb-true (get_or s 0 0) 3 f) (omega arith) (piece_first n s l (eqb-true (get_or s 0 0) 3 f))
    go true e false f = no (other_first (suc n) s (eqb-false (get_or s 0 0) 3 f))
    go false e b f = no (short_first (suc n) s (ltb-false 16 (length s) e))

-- they are no more than were asked for, and as long as pieces are
pub record Sizes (n : ℕ) (s : List ℕ) : Type 0 where
  pub some : length (pieces_first n s) ≤ n
  pub bytes : length (joined (pieces_first n s)) ≡ 16 * length (pieces_first n s)
  pub within : 17 * length (pieces_first n s) ≤ length s

pub none_asked : (s : List ℕ) → pieces_first 0 s ≡ []
unfolding records_up_to
none_asked s = refl

pub sizes : (n : ℕ) (s : List ℕ) → Sizes n s
sizes zero s = let e = none_asked s in record { some = rw e (omega arith); bytes = rw e; within = rw e (omega arith) }
sizes (suc n) s = go (first_is n s) (sizes n (drop 17 s))
  where
    go : First n s → Sizes n (drop 17 s) → Sizes (suc n) s
    go (no e) z = record { some = rw e (omega arith); bytes = rw e; within = rw e (omega arith) }
    go (one k l e) z =
        let x : length (take 16 (drop 1 s)) ≡ 16 = length-take-le 16 (drop 1 s) (omega (arith, length-drop 1 s)) in
        let xs = pieces_first n (drop 17 s) in
        record {
          some = rw e (omega (arith, z.some));
          bytes = rw e (length-append (take 16 (drop 1 s)) (joined xs) ∙ omega (arith, x, z.bytes));
          within = rw e (omega (arith, z.within, length-drop 17 s));
        }
