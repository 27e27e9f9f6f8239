-- The blocks kept, by their lengths and times.
use Prim.Native.Nat.{ℕ, zero, suc, ◌+◌, ◌-◌, ◌*◌, ◌/◌, ◌%◌, ◌≤◌, ◌<◌, min}
use mathlib.Core.Path.{◌≡◌, ◌∙◌, refl, ap, sym}
use mathlib.Core.List.{List, [], ◌∷◌, ◌++◌, map, reverse, reverse_aux, append-nil}
use mathlib.Core.Bool.{Bool, true, false, cond, ◌||◌}
use native.Mathlib.Nat.{not-suc-le-zero, le_of_suc-le-suc}
use native.Mathlib.Omega.{arith}
use lib.Dec.{ltb, leb}
use lib.ListN.{length, take, drop, get_or, length-take}
use lib.Seq.{take-suc, take-take, take_all}
use borrow.Author.Tests.{lt-ltb, leb-true, leb-false}
use Rattle.base.proofs.Tests.{by_test}
use Rattle.packet_spec.specs.Redundancy.{blocks_of, joined}
use Rattle.packet_spec.specs.Encoding.{block_header, heads_bytes}
use Rattle.sender_spec.specs.Limits.{room_size}
use Rattle.sender_spec.specs.State.{SentBlock}
use Rattle.sender_spec.specs.Packets.{recent, recent_run, any_text, repeated}
use Rattle.slots.specs.Slots.{slot_of, slot_text, texts_size}
use Rattle.writer.specs.Draft.{blocks_from}
use Rattle.carrying.specs.Internal.Young.{young, young_run, text_total}
use Rattle.carrying.proofs.YoungRun.{AllYoung}
use Rattle.carrying.proofs.Tags.{AreTags, tag_age, tag_len}
use Rattle.writer.specs.Internal.LastFirst.{last_first}
use Rattle.writer.specs.Internal.Headers.{header_at, headers_for}
use Rattle.writer.proofs.LastFirst.{last_none, last_more}
use Rattle.writer.specs.Internal.Parts.{text_at}
use Rattle.writer.proofs.Slots.{kept_length}

reverse_last_onto : (xs ys : List SentBlock) (x : SentBlock) → reverse_aux (xs ++ (x ∷ [])) ys ≡ x ∷ reverse_aux xs ys
reverse_last_onto [] ys x = refl
reverse_last_onto (y ∷ xs) ys x = reverse_last_onto xs (y ∷ ys) x

-- the one to write first is the last
reverse_more : (bs : List SentBlock) (n : ℕ) (d : SentBlock) → n < length bs → reverse (take (suc n) bs) ≡ get_or bs n d ∷ reverse (take n bs)
reverse_more bs n d h = ap reverse (take-suc bs n d h) ∙ reverse_last_onto (take n bs) [] (get_or bs n d)

pub take_least : {A : Type 0} (m n : ℕ) (l : List A) → take m (take n l) ≡ take (min m n) l
take_least {A} m n l = go (leb m n) refl
  where
    go : (b : Bool) → leb m n ≡ b → take m (take n l) ≡ take (min m n) l
    go true e = let h : m ≤ n = leb-true m n e in let f : m ≡ min m n = omega arith in take-take m n l h ∙ ap (λ (k : ℕ). take k l) f
    go false e =
        let h : n < m = leb-false m n e in
        let f : n ≡ min m n = omega arith in
        take_all m (take n l) (omega (arith, length-take n l)) ∙ ap (λ (k : ℕ). take k l) f

pub run_front : (t : ℕ) (bs : List SentBlock) → recent_run t bs ≡ take (length (recent_run t bs)) bs
run_front t [] = refl
run_front t (b ∷ bs) = by_test (λ (r : List SentBlock). r ≡ take (length r) (b ∷ bs)) (recent t b) (λ e. ap (λ (l : List SentBlock). b ∷ l) (run_front t bs)) (λ e. refl)

some_of : (m n : ℕ) → (ltb 0 m || ltb 0 n) ≡ ltb 0 (m + n)
some_of zero n = let e : n ≡ 0 + n = omega arith in ap (ltb 0) e
some_of (suc m) n = rw (lt-ltb 0 (suc m) (omega arith), lt-ltb 0 (suc m + n) (omega arith))

pub some_text : (x : List ℕ) (bs : List SentBlock) (m n : ℕ) → length x ≡ m → any_text bs ≡ ltb 0 n → (ltb 0 (length x) || any_text bs) ≡ ltb 0 (n + m)
some_text x bs m n e f =
    let g : m + n ≡ n + m = omega arith in
    (λ i. ltb 0 (e i) || f i) ∙ some_of m n ∙ ap (ltb 0) g

abbrev block : List ℕ → ℕ → ℕ → ℕ → ℕ → SentBlock
block texts room back len at = record { text = slot_text texts (slot_of room back) len; at = at }

module _ (texts : List ℕ) (room : ℕ) where
  pub blocks_length : (lens ats : List ℕ) (back : ℕ) → length lens ≡ length ats → length (blocks_from texts room back lens ats) ≡ length ats
  blocks_length [] [] back e = refl
  blocks_length [] (at ∷ ats) back e = absurd (omega arith)
  blocks_length (n ∷ lens) [] back e = absurd (omega arith)
  blocks_length (n ∷ lens) (at ∷ ats) back e = ap suc (blocks_length lens ats (suc back) (omega arith))

  blocks_at : (lens ats : List ℕ) (back i : ℕ) (d : SentBlock) → i < length lens → i < length ats
      → get_or (blocks_from texts room back lens ats) i d ≡ block texts room (i + back) (get_or lens i 0) (get_or ats i 0)
  blocks_at [] ats back i d h k = absurd (not-suc-le-zero h)
  blocks_at (n ∷ lens) [] back i d h k = absurd (not-suc-le-zero k)
  blocks_at (n ∷ lens) (at ∷ ats) back zero d h k = let e : back ≡ 0 + back = omega arith in ap (λ (b : ℕ). block texts room b n at) e
  blocks_at (n ∷ lens) (at ∷ ats) back (suc i) d h k =
      let e : i + suc back ≡ suc i + back = omega arith in
      blocks_at lens ats (suc back) i d (le_of_suc-le-suc h) (le_of_suc-le-suc k) ∙ ap (λ (b : ℕ). block texts room b (get_or lens i 0) (get_or ats i 0)) e

  pub run_length : (t m : ℕ) (lens ats : List ℕ) (back : ℕ) → length lens ≡ length ats
      → length (recent_run t (take m (blocks_from texts room back lens ats))) ≡ young_run t (take m ats)
  run_length t zero lens ats back e = refl
  run_length t (suc m) [] [] back e = refl
  run_length t (suc m) [] (at ∷ ats) back e = absurd (omega arith)
  run_length t (suc m) (n ∷ lens) [] back e = absurd (omega arith)
  run_length t (suc m) (n ∷ lens) (at ∷ ats) back e = go (young t at) (run_length t m lens ats (suc back) (omega arith))
    where
      go : (r : Bool) → length (recent_run t (take m (blocks_from texts room (suc back) lens ats))) ≡ young_run t (take m ats)
          → length (cond r (block texts room back n at ∷ recent_run t (take m (blocks_from texts room (suc back) lens ats))) []) ≡ cond r (suc (young_run t (take m ats))) 0
      go true rest = ap suc rest
      go false rest = refl

  module _ (whole : length texts ≡ texts_size) where
    pub any_total : (n : ℕ) (lens ats : List ℕ) (back : ℕ) → length lens ≡ length ats
        → any_text (take n (blocks_from texts room back lens ats)) ≡ ltb 0 (text_total (take n lens))
    any_total zero lens ats back e = refl
    any_total (suc n) [] [] back e = refl
    any_total (suc n) [] (at ∷ ats) back e = absurd (omega arith)
    any_total (suc n) (k ∷ lens) [] back e = absurd (omega arith)
    any_total (suc n) (k ∷ lens) (at ∷ ats) back e =
        (λ i. ltb 0 (kept_length texts whole room back k i) || any_total n lens ats (suc back) (omega arith) i) ∙ some_of (min k room_size) (text_total (take n lens))

  -- the first n, oldest first
  module _ (t : ℕ) (lens ats : List ℕ) (same : length lens ≡ length ats) where
    abbrev kept : List SentBlock
    kept = blocks_from texts room 1 lens ats

    none : SentBlock
    none = record { text = []; at = 0 }

    last_kept : (n : ℕ) → n < length ats → reverse (take (suc n) kept) ≡ block texts room (suc n) (get_or lens n 0) (get_or ats n 0) ∷ reverse (take n kept)
    last_kept n h =
        let e : n + 1 ≡ suc n = omega arith in
        reverse_more kept n none (omega (arith, blocks_length lens ats 1 same))
        ∙ ap (λ (b : SentBlock). b ∷ reverse (take n kept)) (blocks_at lens ats 1 n none (omega arith) h ∙ ap (λ (b : ℕ). block texts room b (get_or lens n 0) (get_or ats n 0)) e)

    pub kept_heads : length texts ≡ texts_size → (tags : List ℕ) (t140 n : ℕ) → n ≤ length ats → AllYoung t ats n → AreTags t lens ats n tags
        → heads_bytes t140 (map (repeated t) (reverse (take n kept))) ≡ headers_for t140 tags n
    kept_heads whole tags t140 zero h all are = sym (last_none (header_at t140 tags) (t140 ∷ []))
    kept_heads whole tags t140 (suc n) h all are =
        let m = get_or tags n 0 in
        let e = are n (omega arith) in
        let age : t - get_or ats n 0 ≡ m / 256 % 16384 = sym (ap (λ (k : ℕ). k / 256 % 16384) e ∙ tag_age t (get_or lens n 0) (get_or ats n 0) (all n (omega arith))) in
        let size : length (slot_text texts (slot_of room (suc n)) (get_or lens n 0)) ≡ m % 256 =
        kept_length texts whole room (suc n) (get_or lens n 0) ∙ sym (ap (λ (k : ℕ). k % 256) e ∙ tag_len t (get_or lens n 0) (get_or ats n 0)) in
        ap (λ (l : List SentBlock). heads_bytes t140 (map (repeated t) l)) (last_kept n h)
        ∙ (λ i. block_header t140 (age i) (size i) ++ kept_heads whole tags t140 n (omega arith) (λ j k. all j (omega (arith, k))) (λ j k. are j (omega (arith, k))) i)
        ∙ sym (last_more (header_at t140 tags) (t140 ∷ []) n)

    pub kept_texts : (tags x : List ℕ) (n : ℕ) → n ≤ length ats → AreTags t lens ats n tags
        → joined (blocks_of (map (repeated t) (reverse (take n kept))) x) ≡ last_first (text_at texts room tags) x n
    kept_texts tags x zero h are = append-nil x ∙ sym (last_none (text_at texts room tags) x)
    kept_texts tags x (suc n) h are =
        let m = get_or tags n 0 in
        let e : m % 256 ≡ min (get_or lens n 0) room_size = ap (λ (k : ℕ). k % 256) (are n (omega arith)) ∙ tag_len t (get_or lens n 0) (get_or ats n 0) in
        let f : min (get_or lens n 0) room_size ≡ min (m % 256) room_size = omega (arith, e) in
        ap (λ (l : List SentBlock). joined (blocks_of (map (repeated t) l) x)) (last_kept n h)
        ∙ (λ i. take (f i) (drop (slot_of room (suc n) * room_size) texts) ++ kept_texts tags x n (omega arith) (λ j k. are j (omega (arith, k))) i)
        ∙ sym (last_more (text_at texts room tags) x n)
