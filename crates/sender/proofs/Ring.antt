-- The circle of slots: behind a packet, each block kept lies where it lay.
use Prim.Native.Nat.{ℕ, zero, suc, ◌+◌, ◌-◌, ◌≤◌, min}
use mathlib.Core.Path.{◌≡◌, ◌∙◌, refl, ap, sym, subst}
use mathlib.Core.List.{List, [], ◌∷◌}
use native.Mathlib.Omega.{arith}
use native.Mathlib.Numerals.{add-one}
use lib.ListN.{length, take, length-take}
use Rattle.packet_spec.specs.Limits.{level}
use Rattle.sender_spec.specs.State.{SentBlock}
use Rattle.slots.specs.Slots.{slots, texts_size, slot_of, onward, slot_text, waiting_in, rest_kept}
use Rattle.writer.specs.Draft.{blocks_from, kept_in}
use Rattle.packet_spec.proofs.Limits.{level_least}
use Rattle.slots.proofs.Slots.{slot_on, slot_newest}
use Rattle.slots.proofs.Rest.{rest_back}
use Rattle.writer.proofs.KeptBlocks.{take_least}

module _ (texts : List ℕ) (room : ℕ) where
  blocks_on : (back : ℕ) (lens ats : List ℕ) → back + length lens ≤ slots → blocks_from texts (onward room) (suc back) lens ats ≡ blocks_from texts room back lens ats
  blocks_on back [] ats h = refl
  blocks_on back (n ∷ lens) [] h = refl
  blocks_on back (n ∷ lens) (t ∷ ats) h =
      let e : slot_of (onward room) (suc back) ≡ slot_of room back = slot_on room back (omega arith) in
      let f = blocks_on (suc back) lens ats (omega arith) in
      λ i. record { text = slot_text texts (e i) n; at = t } ∷ f i

  blocks_take : (k back : ℕ) (lens ats : List ℕ) → blocks_from texts room back (take k lens) (take k ats) ≡ take k (blocks_from texts room back lens ats)
  blocks_take zero back lens ats = refl
  blocks_take (suc k) back [] ats = refl
  blocks_take (suc k) back (n ∷ lens) [] = refl
  blocks_take (suc k) back (n ∷ lens) (t ∷ ats) = ap (λ (l : List SentBlock). record { text = slot_text texts (slot_of room back) n; at = t } ∷ l) (blocks_take k (suc back) lens ats)

  -- what is left of what waited is written to none of their slots
  blocks_stay : (len taken : ℕ) → length texts ≡ texts_size → (back : ℕ) (lens ats : List ℕ) → 1 ≤ back → back + length lens ≤ slots
      → blocks_from (rest_kept room len taken texts) (onward room) back lens ats ≡ blocks_from texts (onward room) back lens ats
  blocks_stay len taken size back [] ats h k = refl
  blocks_stay len taken size back (n ∷ lens) [] h k = refl
  blocks_stay len taken size back (n ∷ lens) (t ∷ ats) h k =
      let e = rest_back room len taken texts size back n h (omega arith) in
      let f = blocks_stay len taken size (suc back) lens ats (omega arith) (omega arith) in
      λ i. record { text = e i; at = t } ∷ f i

-- the circle: behind a packet what it took is block 0, and each block kept is one further back, in its slot; the oldest goes
kept_on : (k : ℕ) → suc k ≡ level → (texts : List ℕ) (room len t count : ℕ) (lens ats : List ℕ)
    → kept_in texts (onward room) (take (suc k) (len ∷ lens)) (take (suc k) (t ∷ ats)) (min count k + 1)
    ≡ take (suc k) (record { text = waiting_in texts room len; at = t } ∷ kept_in texts room lens ats count)
kept_on k most texts room len t count lens ats =
    let old = blocks_from texts room 1 lens ats in
    let moved : blocks_from texts (onward room) 2 (take k lens) (take k ats) ≡ take k old =
    blocks_on texts room 1 (take k lens) (take k ats) (omega (arith, length-take k lens)) ∙ blocks_take texts room k 1 lens ats in
    let same : min (min count k) k ≡ min k count = omega arith in
    let rest : take (min count k) (take k old) ≡ take k (take count old) =
    take_least (min count k) k old ∙ ap (λ (n : ℕ). take n old) same ∙ sym (take_least k count old) in
    let slot = slot_newest room in
    let suc_count : min count k + 1 ≡ suc (min count k) = add-one (min count k) in
    (λ i. take (suc_count i) (record { text = slot_text texts (slot i) len; at = t } ∷ moved i))
    ∙ ap (λ (l : List SentBlock). record { text = waiting_in texts room len; at = t } ∷ l) rest

-- and what is left of what waited lies in the slot of the oldest
pub kept_behind : (texts : List ℕ) (room len taken t count : ℕ) (lens ats : List ℕ) → length texts ≡ texts_size
    → kept_in (rest_kept room len taken texts) (onward room) (take level (taken ∷ lens)) (take level (t ∷ ats)) (min count (level - 1) + 1)
    ≡ take level (record { text = waiting_in texts room taken; at = t } ∷ kept_in texts room lens ats count)
kept_behind texts room len taken t count lens ats size =
    let most : suc (level - 1) ≡ level = omega (arith, level_least) in
    ap (take (min count (level - 1) + 1)) (blocks_stay texts room len taken size 1 (take level (taken ∷ lens)) (take level (t ∷ ats)) (omega arith) (omega (arith, length-take level (taken ∷ lens))))
    ∙ subst (λ (n : ℕ). kept_in texts (onward room) (take n (taken ∷ lens)) (take n (t ∷ ats)) (min count (level - 1) + 1)
    ≡ take n (record { text = waiting_in texts room taken; at = t } ∷ kept_in texts room lens ats count)) most (kept_on (level - 1) most texts room taken t count lens ats)
