-- Whole times before a packet.
use Prim.Native.Nat.{ℕ, ◌+◌, ◌-◌, ◌<◌, ◌≤◌}
use mathlib.Core.Path.{◌≡◌, ◌∙◌, refl, ap, sym}
use mathlib.Core.List.{List, [], ◌∷◌}
use mathlib.Core.Bool.{true}
use native.Mathlib.Omega.{arith}
use borrow.Author.Tests.{le-ltb}
use lib.ListN.{length, get_or, take, drop, length-drop}
use lib.Seq.{drop-drop, get_or-drop, length-take-le}
use Rattle.journal_spec.specs.Contents.{longest_packet}
use Rattle.parts.specs.declared.Part.TheVariants.{Kind, Time}
use Rattle.parts.specs.Bytes.{Reading, read_to, unread, going, byte, at}
use Rattle.parts.proofs.Laws.{Moves, and_then, first, time_end}
use Rattle.reading.specs.declared.Reader.{Reader}
use Rattle.reading.specs.Reading.{reading_of, sound}
use Rattle.reading.proofs.Sound.{fits}
use Rattle.records.specs.Internal.Turns.{Passes, Went}
use Rattle.records.proofs.Turns.{went}

one_time : (r : Reading) (s : List ℕ) → r.part ≡ Kind → r.size ≤ length r.pieces → 8 < length s → get_or s 0 0 ≡ 4 → Moves r s r (drop 9 s)
one_time r s e h l k =
    let b : byte r (get_or s 0 0) ≡ at r (Time 8) = simp (e, k, le-ltb (length r.pieces) r.size h) in
    let d : length (drop 1 s) ≡ length s - 1 = length-drop 1 s in
    let same : at r Kind ≡ r = ap (at r) (sym e) in
    and_then (rw b at (first r s (omega arith) (ap going e)))
    (rw (drop-drop 8 1 s, same) at (time_end r 8 (drop 1 s) 8 (omega arith) refl (omega arith)))

pub passes_none : (s : List ℕ) → Passes s 0
passes_none s = record { within = omega arith; reads = λ _ _ _. refl; leaves = λ _ _ _. refl }

pub passes_more : (s : List ℕ) (n : ℕ) → Passes s n → 8 < length s - n → get_or s n 0 ≡ 4 → Passes s (n + 9)
passes_more s n w l k = record {
  within = omega arith;
  reads = λ r e h. w.reads r e h ∙ (next r e h).to ∙ ap (read_to r) (drop-drop 9 n s);
  leaves = λ r e h. w.leaves r e h ∙ (next r e h).left ∙ ap (unread r) (drop-drop 9 n s);
}
  where
    next : (r : Reading) → r.part ≡ Kind → r.size ≤ length r.pieces → Moves r (drop n s) r (drop 9 (drop n s))
    next r e h =
        let z : n + 0 ≡ n = omega arith in
        one_time r (drop n s) e h (omega (arith, length-drop n s)) (get_or-drop n s 0 0 ∙ ap (λ (j : ℕ). get_or s j 0) z ∙ k)

-- what is left after the times so far begins with one more
module _ (s rest : List ℕ) (w : Passes s (length s - length rest)) (re : rest ≡ drop (length s - length rest) s) (within : length rest ≤ length s)
    (record' after : List ℕ) (fe : record' ≡ take 9 rest) (ae : after ≡ drop 9 rest) (long : length after + 9 ≡ length rest) (kind : get_or record' 0 0 ≡ 4) where
  n : ℕ
  n = length s - length rest

  next_place : n + 9 ≡ length s - length after
  unfolding n
  next_place = omega arith

  kind_there : get_or s n 0 ≡ 4
  unfolding n
  kind_there =
      let z : n + 0 ≡ n = omega arith in
      ap (λ (j : ℕ). get_or s j 0) (sym z) ∙ sym (get_or-drop n s 0 0) ∙ ap (λ (x : List ℕ). get_or x 0 0) (sym re) ∙ sym (first rest) ∙ ap (λ (x : List ℕ). get_or x 0 0) (sym fe) ∙ kind
    where
      first : (x : List ℕ) → get_or (take 9 x) 0 0 ≡ get_or x 0 0
      first [] = refl
      first (b ∷ x) = refl

  pub one_passed : Passes s (length s - length after)
  unfolding n
  one_passed = rw next_place at (passes_more s n w (omega arith) kind_there)

  pub left_after : after ≡ drop (length s - length after) s
  unfolding n
  left_after = ae ∙ ap (drop 9) re ∙ drop-drop 9 n s ∙ ap (λ (j : ℕ). drop j s) next_place

pub past : (r : Reader) (p s : List ℕ) → r.part ≡ Kind → sound r ≡ true → longest_packet ≤ length p → r.size ≤ r.at → (n : ℕ) → Passes s n → Went r p s r p n
past r p s e ok big outside n w =
    let l : length (take r.at p) ≡ r.at = length-take-le r.at p (omega (arith, fits r ok)) in
    went ok w.within (record { to = w.reads (reading_of r p) e (omega arith); left = w.leaves (reading_of r p) e (omega arith) })
