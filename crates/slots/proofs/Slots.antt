-- The circle of slots, and the texts in them.
use Prim.Native.Nat.{ℕ, zero, suc, ◌+◌, ◌-◌, ◌*◌, ◌%◌, ◌≤◌, ◌<◌, min}
use mathlib.Core.Path.{◌≡◌, ◌∙◌, refl, ap, sym}
use mathlib.Core.List.{List, ◌++◌}
use mathlib.Core.Bool.{Bool, true, false}
use native.Mathlib.Omega.{arith}
use native.Mathlib.Nat.{mod-lt}
use lib.Dec.{ltb, leb}
use lib.ListN.{length, take, drop, length-take, length-drop}
use borrow.Author.Tests.{lt-ltb, ltb-true, leb-true, leb-false}
use Rattle.base.proofs.Tests.{by_test}
use Rattle.packet_spec.specs.Limits.{level}
use Rattle.sender_spec.specs.Limits.{room_size}
use Rattle.sender_spec.specs.State.{has_text}
use Rattle.slots.specs.Slots.{slots, texts_size, room_of, slot_of, onward, slot_text, waiting_in, over_at}
use Rattle.slots.proofs.Circle.{before_none, before_some, before_after}
use Rattle.slots.proofs.OverAt.{over_at_before, over_at_behind, over_at_joins}

pub room_slot : (room : ℕ) → room_of room < slots
room_slot room = by_test (λ (k : ℕ). k < slots) (ltb room slots) (λ e. ltb-true room slots e) (λ e. omega arith)

room_same : (room : ℕ) → room < slots → room_of room ≡ room
room_same room h = rw (lt-ltb room slots h)

-- what waits lies no packet back
pub slot_now : (room : ℕ) → slot_of room 0 ≡ room_of room
slot_now room = before_none slots (room_of room) (room_slot room)

-- and the blocks kept in other slots
pub slot_other : (room back : ℕ) → 1 ≤ back → back < slots → slot_of room back ≡ room_of room → ⊥
slot_other room back h k e = before_some slots (room_of room) (room_slot room) back h k e

-- a slot lies within the texts
module _ (texts : List ℕ) (whole : length texts ≡ texts_size) where
  pub text_length : (slot len : ℕ) → slot < slots → length (slot_text texts slot len) ≡ min len room_size
  text_length slot len h = simp (length-take, length-drop) (omega arith)

  pub waiting_length : (room len : ℕ) → length (waiting_in texts room len) ≡ min len room_size
  waiting_length room len = text_length (room_of room) len (room_slot room)

  pub waiting_some : (room len : ℕ) → has_text (waiting_in texts room len) ≡ ltb 0 len
  waiting_some room len = ap (ltb 0) (waiting_length room len) ∙ go len
    where
      go : (n : ℕ) → ltb 0 (min n room_size) ≡ ltb 0 n
      go zero = refl
      go (suc n) = lt-ltb 0 (min (suc n) room_size) (omega arith) ∙ sym (lt-ltb 0 (suc n) (omega arith))

-- the slots back and the one behind are of the circle
pub slot_slot : (room back : ℕ) → slot_of room back < slots
slot_slot room back = mod-lt (room_of room + slots - back) (omega arith)

pub onward_slot : (room : ℕ) → onward room < slots
onward_slot room = mod-lt (room_of room + 1) (omega arith)

pub onward_room : (room : ℕ) → room_of (onward room) ≡ onward room
onward_room room = room_same (onward room) (onward_slot room)

pub slot_on : (room back : ℕ) → back ≤ level → slot_of (onward room) (suc back) ≡ slot_of room back
slot_on room back h =
    ap (λ (n : ℕ). (n + slots - suc back) % slots) (onward_room room) ∙ before_after slots (room_of room) (room_slot room) back (omega arith)

pub slot_newest : (room : ℕ) → slot_of (onward room) 1 ≡ room_of room
slot_newest room = slot_on room 0 (omega arith) ∙ slot_now room

-- bytes written within a slot
module _ (slot from : ℕ) (texts x : List ℕ) (size : length texts ≡ texts_size) (below : slot < slots) (fits : from + length x ≤ room_size) where
  within : slot * room_size + from + length x ≤ length texts
  within = omega arith

  -- join the front of so many there
  pub slot_joined : slot_text (over_at (slot * room_size + from) x texts) slot (from + length x) ≡ slot_text texts slot from ++ x
  slot_joined =
      let e : min (from + length x) room_size ≡ from + length x = omega arith in
      let f : min from room_size ≡ from = omega arith in
      ap (λ (n : ℕ). take n (drop (slot * room_size) (over_at (slot * room_size + from) x texts))) e
      ∙ over_at_joins (slot * room_size + from) x texts within (slot * room_size) from refl ∙ ap (λ (n : ℕ). take n (drop (slot * room_size) texts) ++ x) (sym f)

  -- and leave the other slots as they are
  pub other_stays : (other n : ℕ) → other < slots → (other ≡ slot → ⊥) → slot_text (over_at (slot * room_size + from) x texts) other n ≡ slot_text texts other n
  other_stays other n h differs = go (leb other slot) refl
    where
      go : (b : Bool) → leb other slot ≡ b → slot_text (over_at (slot * room_size + from) x texts) other n ≡ slot_text texts other n
      go true e = let l : other ≤ slot = leb-true other slot e in over_at_before (slot * room_size + from) x texts within (other * room_size) (min n room_size) (omega arith)
      go false e = let l : slot < other = leb-false other slot e in ap (take (min n room_size)) (over_at_behind (slot * room_size + from) x texts within (other * room_size) (omega arith))
