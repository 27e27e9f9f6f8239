-- Laws of the front of so many whole characters.
use Prim.Native.Nat.{ℕ, zero, suc, ◌+◌, ◌-◌, ◌≤◌, min}
use mathlib.Core.Path.{◌≡◌, ◌∙◌, refl, ap, sym, subst}
use mathlib.Core.List.{List, [], ◌∷◌, ◌++◌, append_assoc, append-nil}
use mathlib.Core.Option.{Option, none, some}
use mathlib.Core.Bool.{Bool, true, false}
use native.Mathlib.Nat.{add-zero, zero-add, suc-add}
use native.Mathlib.Omega.{arith}
use lib.Dec.{leb}
use lib.ListN.{length, take, drop, length-append, take-append-drop}
use lib.Seq.{take-append_seam, drop-append_seam}
use borrow.Author.Tests.{leb-true, leb-false}
use Rattle.text_spec.specs.Utf8.{Characters, Range, rows, begun, if_owed, text_of, well_formed, is_text}
use Rattle.text_spec.specs.Front.{front}
use Rattle.text_spec.specs.WellFormed.{Matches, end, byte, Letter, Letters, empty, more}
use Rattle.text_spec.proofs.Table.{begins_row}
use Rattle.text_spec.proofs.WellFormed.{characters_are_letters, letters_are_characters}
use Rattle.text_spec.proofs.TextJoin.{text_letters, letters_append}

pub join_counts : (x y : List ℕ) (m n : ℕ) → text_of x ≡ Characters m → text_of y ≡ Characters n → text_of (x ++ y) ≡ Characters (m + n)
join_counts x y m n e f =
    letters_are_characters (x ++ y) (m + n) (letters_append (characters_are_letters x m e) (characters_are_letters y n f))

-- one letter more, and a byte that begins none
module _ (n b : ℕ) (s : List ℕ) where
  pub front_on : {rest : List Range} → begun rows b ≡ some rest
      → front (suc n) (b ∷ s) ≡ b ∷ (take (length rest) s ++ front n (drop (length rest) s))
  front_on e =
      ap (λ (o : Option (List Range)). if_owed o (λ rest. b ∷ (take (length rest) s ++ front n (drop (length rest) s))) []) e

  pub front_stops : begun rows b ≡ none → front (suc n) (b ∷ s) ≡ []
  front_stops e =
      ap (λ (o : Option (List Range)). if_owed o (λ rest. b ∷ (take (length rest) s ++ front n (drop (length rest) s))) []) e

pub front_nothing : (n : ℕ) → front n [] ≡ []
front_nothing zero = refl
front_nothing (suc n) = refl

-- what follows the front
leaves : (n : ℕ) (x : List ℕ) → (r : List ℕ) × (x ≡ front n x ++ r)
leaves zero x = (x, refl)
leaves (suc n) [] = ([], refl)
leaves (suc n) (b ∷ s) = go (begun rows b) (λ k. leaves n (drop k s))
  where
    go : (o : Option (List Range)) → ((k : ℕ) → (r : List ℕ) × (drop k s ≡ front n (drop k s) ++ r))
        → (r : List ℕ) × (b ∷ s ≡ if_owed o (λ rest. b ∷ (take (length rest) s ++ front n (drop (length rest) s))) [] ++ r)
    go none f = (b ∷ s, refl)
    go (some rest) f =
        let k = length rest in
        let (r, e) = f k in (
          r,
          ap (b ∷◌)
              (sym (take-append-drop k s) ∙ ap (take k s ++◌) e ∙ sym (append_assoc (take k s) (front n (drop k s)) r)),
        )

pub front_rest : (n : ℕ) (x : List ℕ) → front n x ++ drop (length (front n x)) x ≡ x
front_rest n x =
    let (r, e) = leaves n x in
    ap (front n x ++◌) (ap (drop (length (front n x))) e ∙ drop-append_seam (front n x) r) ∙ sym e

matched : {rs : List Range} {l : List ℕ} → Matches rs l → length l ≡ length rs
matched end = refl
matched (byte w y) = ap suc (matched y)

-- a whole letter is the front's first
front_letter : (n : ℕ) {l : List ℕ} → Letter l → (s : List ℕ) → front (suc n) (l ++ s) ≡ l ++ front n s
front_letter n x s = go x.bytes
  where
    go : {l : List ℕ} → Matches (x.by.first ∷ x.by.rest) l → front (suc n) (l ++ s) ≡ l ++ front n s
    go (byte {b} {bs} w y) =
        front_on n b (bs ++ s) (begins_row b w x.listed) ∙ rw (← matched y, take-append_seam, drop-append_seam)

letter_some : {l : List ℕ} → Letter l → 1 ≤ length l
letter_some x = let e = matched x.bytes in omega arith

front_letters : {k : ℕ} {y : List ℕ} → Letters k y → (n : ℕ) (z : List ℕ) → front (k + n) (y ++ z) ≡ y ++ front n z
front_letters empty n z = rw zero-add
front_letters (more {n = k} {l} {s} h r) n z =
    rw (suc-add, append_assoc l s z, append_assoc l s (front n z)) (front_letter (k + n) h (s ++ z) ∙ ap (l ++◌) (front_letters r n z))

-- letters in two parts
record Cut (k m : ℕ) (x : List ℕ) : Type 0 where
  first : List ℕ
  others : List ℕ
  letters : Letters k first
  behind : Letters m others
  joined : x ≡ first ++ others

cut : (k m : ℕ) {n : ℕ} {x : List ℕ} → Letters n x → n ≡ k + m → Cut k m x
cut zero m {n} {x} r e =
    let p : n ≡ m = omega arith in
    record { first = []; others = x; letters = empty; behind = subst (λ (i : ℕ). Letters i x) p r; joined = refl }
cut (suc k) m empty e = absurd (omega arith)
cut (suc k) m (more {l} {s} h r) e =
    let c = cut k m r (omega arith) in
    record {
      first = l ++ c.first;
      others = c.others;
      letters = more h c.letters;
      behind = c.behind;
      joined = ap (l ++◌) c.joined ∙ sym (append_assoc l c.first c.others);
    }

-- a front of no more than all of the characters
module _ (k m : ℕ) (x : List ℕ) (c : Cut k m x) where
  taken : front k x ≡ c.first
  taken = rw c.joined (ap (λ (i : ℕ). front i (c.first ++ c.others)) (sym (add-zero k)) ∙ front_letters c.letters 0 c.others ∙ append-nil c.first)

  left : drop (length (front k x)) x ≡ c.others
  left = rw taken (ap (drop (length c.first)) c.joined ∙ drop-append_seam c.first c.others)

pub front_all : (n m : ℕ) (x : List ℕ) → text_of x ≡ Characters m → m ≤ n → front n x ≡ x
front_all n m x e h =
    let p : n ≡ m + (n - m) = omega arith in
    ap (λ (i : ℕ). front i x) p
    ∙ ap (front (m + (n - m))) (sym (append-nil x))
    ∙ front_letters (characters_are_letters x m e) (n - m) []
    ∙ ap (x ++◌) (front_nothing (n - m))
    ∙ append-nil x

pub front_min : (n m : ℕ) (x : List ℕ) → text_of x ≡ Characters m → front (min n m) x ≡ front n x
front_min n m x e = go (leb n m) refl
  where
    go : (b : Bool) → leb n m ≡ b → front (min n m) x ≡ front n x
    go true q = let l = leb-true n m q in let p : min n m ≡ n = omega arith in rw p
    go false q = let l = leb-false n m q in front_all (min n m) m x e (omega arith) ∙ sym (front_all n m x e (omega arith))

module _ (n m : ℕ) (x : List ℕ) (e : text_of x ≡ Characters m) where
  parts : Cut (min n m) (m - min n m) x
  parts = cut (min n m) (m - min n m) (characters_are_letters x m e) (omega arith)

  pub front_counts : text_of (front n x) ≡ Characters (min n m)
  front_counts =
      ap text_of (sym (front_min n m x e) ∙ taken (min n m) (m - min n m) x parts)
      ∙ letters_are_characters parts.first (min n m) parts.letters

  pub rest_counts : text_of (drop (length (front n x)) x) ≡ Characters (m - min n m)
  rest_counts =
      ap (λ (f : List ℕ). text_of (drop (length f) x)) (sym (front_min n m x e))
      ∙ ap text_of (left (min n m) (m - min n m) x parts)
      ∙ letters_are_characters parts.others (m - min n m) parts.behind

module _ (n : ℕ) (x : List ℕ) (e : is_text x ≡ true) where
  count : (m : ℕ) × (text_of x ≡ Characters m)
  count = let (m, l) = text_letters x e in (m, letters_are_characters x m l)

  pub front_text : is_text (front n x) ≡ true
  front_text = ap well_formed (front_counts n count.0 x count.1)

  pub rest_text : is_text (drop (length (front n x)) x) ≡ true
  rest_text = ap well_formed (rest_counts n count.0 x count.1)

-- no longer front of whole characters is within the number
pub front_longest : (n k : ℕ) (x y z : List ℕ) → is_text x ≡ true → x ≡ y ++ z → text_of y ≡ Characters k → k ≤ n → length y ≤ length (front n x)
front_longest n k x y z t e c h =
    let p : n ≡ k + (n - k) = omega arith in
    let q : front n x ≡ y ++ front (n - k) z = ap (front n) e ∙ ap (λ (i : ℕ). front i (y ++ z)) p ∙ front_letters (characters_are_letters y k c) (n - k) z in
    omega (arith, ap length q, length-append y (front (n - k) z))

within_length : {n : ℕ} {x : List ℕ} → Letters n x → n ≤ length x
within_length empty = omega arith
within_length (more {l} {s} h r) = omega (arith, letter_some h, within_length r, length-append l s)

pub count_within : (x : List ℕ) (m : ℕ) → text_of x ≡ Characters m → m ≤ length x
count_within x m e = within_length (characters_are_letters x m e)

pub front_some : (n m : ℕ) (x : List ℕ) → text_of x ≡ Characters m → 1 ≤ n → 1 ≤ m → 1 ≤ length (front n x)
front_some n m x e h k = omega (arith, count_within (front n x) (min n m) (front_counts n m x e))

no_letters : {n : ℕ} {x : List ℕ} → Letters n x → n ≡ 0 → x ≡ []
no_letters empty e = refl
no_letters (more h r) e = absurd (omega arith)

pub none_empty : (x : List ℕ) → text_of x ≡ Characters 0 → x ≡ []
none_empty x e = no_letters (characters_are_letters x 0 e) refl
