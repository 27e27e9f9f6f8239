-- The texts behind an accepted offer: it joins what waits, in its slot, and the other slots stay.
use Prim.Native.Nat.{ℕ, ◌+◌, ◌*◌, ◌≤◌, ◌<◌, min}
use mathlib.Core.Path.{◌≡◌, ◌∙◌, ap}
use mathlib.Core.List.{List, ◌++◌}
use native.Mathlib.Omega.{arith}
use lib.ListN.{length, take, drop}
use Rattle.sender_spec.specs.Limits.{room_size}
use Rattle.slots.specs.Slots.{slots, texts_size, room_of, slot_of, slot_text, waiting_in, over_at}
use Rattle.slots.proofs.Slots.{room_slot, slot_slot, slot_other, slot_joined, other_stays}
use Rattle.offer.specs.Offer.{end_of}

module _ (room len : ℕ) (texts x : List ℕ) (size : length texts ≡ texts_size) (fits : min len room_size + length x ≤ room_size) where
  pub waiting_joined : waiting_in (over_at (end_of room len) x texts) room (min len room_size + length x) ≡ waiting_in texts room len ++ x
  waiting_joined =
      let e : min (min len room_size) room_size ≡ min len room_size = omega arith in
      slot_joined (room_of room) (min len room_size) texts x size (room_slot room) fits ∙ ap (λ (n : ℕ). take n (drop (room_of room * room_size) texts) ++ x) e

  pub back_stays : (back n : ℕ) → 1 ≤ back → back < slots → slot_text (over_at (end_of room len) x texts) (slot_of room back) n ≡ slot_text texts (slot_of room back) n
  back_stays back n h k = other_stays (room_of room) (min len room_size) texts x size (room_slot room) fits (slot_of room back) n (slot_slot room back) (slot_other room back h k)
