-- The slots of the lent texts, and the texts in them.
use Rattle.std.specs.Prelude.{ℕ, ◌+◌, ◌-◌, ◌*◌, ◌%◌, min, List, ◌++◌, cond, ltb, take, drop}
use Rattle.base.specs.Arrays.{over}
use Rattle.packet_spec.specs.Limits.{level}
use Rattle.sender_spec.specs.Limits.{room_size}

-- one for what waits, one for each block kept
abbrev pub slots : ℕ
slots = level + 1

-- the size of the lent texts
abbrev pub texts_size : ℕ
texts_size = slots * room_size

-- the slot of what waits; 0 where the number is none of a slot
abbrev pub room_of : ℕ → ℕ
room_of room = cond (ltb room slots) room 0

-- the slot so many packets back
abbrev pub slot_of : ℕ → ℕ → ℕ
slot_of room back = (room_of room + slots - back) % slots

-- the slot behind, the oldest block's
abbrev pub onward : ℕ → ℕ
onward room = (room_of room + 1) % slots

-- so many bytes of a slot, a whole slot at most
abbrev pub slot_text : List ℕ → ℕ → ℕ → List ℕ
slot_text texts slot len = take (min len room_size) (drop (slot * room_size) texts)

abbrev pub waiting_in : List ℕ → ℕ → ℕ → List ℕ
waiting_in texts room len = slot_text texts (room_of room) len

-- x in the place of as many bytes there; the others stay
abbrev pub over_at : ℕ → List ℕ → List ℕ → List ℕ
over_at at x texts = take at texts ++ over x (drop at texts)

-- the next slot begins with what is left of what waits, behind so many bytes
abbrev pub rest_kept : ℕ → ℕ → ℕ → List ℕ → List ℕ
rest_kept room len taken texts = over_at (onward room * room_size) (drop taken (waiting_in texts room len)) texts
