-- The texts in the slots, by how many packets back they lie.
use Prim.Native.Nat.{ℕ, min}
use mathlib.Core.Path.{◌≡◌, ap}
use mathlib.Core.List.{List}
use lib.ListN.{length}
use Rattle.sender_spec.specs.Limits.{room_size}
use Rattle.slots.specs.Slots.{slot_of, slot_text, waiting_in, texts_size}
use Rattle.writer.specs.Internal.Parts.{waiting_at}
use Rattle.slots.proofs.Slots.{slot_now, slot_slot, text_length}

pub waiting_at_lem : (texts : List ℕ) (room len : ℕ) → waiting_at texts room len ≡ waiting_in texts room len
waiting_at_lem texts room len = ap (λ (s : ℕ). slot_text texts s len) (slot_now room)

pub kept_length : (texts : List ℕ) → length texts ≡ texts_size → (room back len : ℕ) → length (slot_text texts (slot_of room back) len) ≡ min len room_size
kept_length texts whole room back len = text_length texts whole (slot_of room back) len (slot_slot room back)
