-- The texts behind a packet: what it left waits in the next slot, and the other slots stay.
use Prim.Native.Nat.{ℕ, ◌+◌, ◌-◌, ◌*◌, ◌≤◌, ◌<◌, min}
use mathlib.Core.Path.{◌≡◌, ◌∙◌, ap, sym}
use mathlib.Core.List.{List, []}
use native.Mathlib.Omega.{arith}
use native.Mathlib.Nat.{add-zero}
use lib.ListN.{length, take, drop, length-drop}
use lib.Seq.{drop-drop}
use Rattle.base.proofs.Fronts.{empty, drop_take}
use Rattle.sender_spec.specs.Limits.{room_size}
use Rattle.slots.specs.Slots.{slots, texts_size, room_of, slot_of, onward, slot_text, waiting_in, over_at, rest_kept}
use Rattle.slots.proofs.Slots.{slot_slot, onward_slot, onward_room, slot_other, waiting_length, slot_joined, other_stays}
use Rattle.slots.proofs.OverAt.{over_at_none, over_at_length}

module _ (room len taken : ℕ) (texts : List ℕ) (size : length texts ≡ texts_size) where
  abbrev rest : List ℕ
  rest = drop taken (waiting_in texts room len)

  rest_length : 0 + length rest ≡ min len room_size - taken
  rest_length = omega (arith, length-drop taken (waiting_in texts room len), waiting_length texts size room len)

  -- as it lies in the texts
  pub rest_lies : (start size : ℕ) → start ≡ room_of room * room_size → size ≡ min len room_size → take (start + size - (start + taken)) (drop (start + taken) texts) ≡ rest
  rest_lies start size e f =
      let n : start + size - (start + taken) ≡ min len room_size - taken = omega arith in
      (λ i. take (n i) (drop (e i + taken) texts)) ∙ ap (take (min len room_size - taken)) (sym (drop-drop taken (room_of room * room_size) texts))
      ∙ sym (drop_take taken (min len room_size) (drop (room_of room * room_size) texts))

  pub nothing_left : min len room_size ≤ taken → texts ≡ rest_kept room len taken texts
  nothing_left h =
      let e : rest ≡ [] = empty rest (omega (arith, rest_length)) in
      sym (ap (λ (x : List ℕ). over_at (onward room * room_size) x texts) e ∙ over_at_none (onward room * room_size) texts)

  fits : 0 + length rest ≤ room_size
  fits = omega (arith, rest_length)

  below : onward room < slots
  below = onward_slot room

  start : onward room * room_size + 0 ≡ onward room * room_size
  start = add-zero (onward room * room_size)

  pub kept_length : length (rest_kept room len taken texts) ≡ texts_size
  kept_length = over_at_length (onward room * room_size) rest texts (omega (arith, fits, below)) ∙ size

  pub waiting_rest : waiting_in (rest_kept room len taken texts) (onward room) (min len room_size - taken) ≡ drop taken (waiting_in texts room len)
  waiting_rest =
      (λ i. slot_text (over_at (sym start i) rest texts) (onward_room room i) (sym rest_length i))
      ∙ slot_joined (onward room) 0 texts rest size below fits

  pub rest_other : (slot n : ℕ) → slot < slots → (slot ≡ onward room → ⊥) → slot_text (rest_kept room len taken texts) slot n ≡ slot_text texts slot n
  rest_other slot n h differs = ap (λ (k : ℕ). slot_text (over_at k rest texts) slot n) (sym start) ∙ other_stays (onward room) 0 texts rest size below fits slot n h differs

  -- so many packets back in the circle as it stands behind the packet
  pub rest_back : (back n : ℕ) → 1 ≤ back → back < slots → slot_text (rest_kept room len taken texts) (slot_of (onward room) back) n ≡ slot_text texts (slot_of (onward room) back) n
  rest_back back n h k = rest_other (slot_of (onward room) back) n (slot_slot (onward room) back) (λ e. slot_other (onward room) back h k (e ∙ sym (onward_room room)))
