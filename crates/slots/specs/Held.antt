-- What a sender holds of its texts: where what waits lies, and the blocks kept.
use Rattle.std.specs.Prelude.{ℕ, ◌+◌, ◌-◌, min, ◌∷◌, cond, ltb, take}
use Rattle.packet_spec.specs.Limits.{level}
use Rattle.sender_spec.specs.Limits.{room_size}
use Rattle.slots.specs.declared.Waiting.{Waiting}
use Rattle.carrying.specs.declared.Kept.{Kept}
use Rattle.slots.specs.Slots.{onward}

-- so many bytes and characters more wait
abbrev pub joined_of : Waiting → ℕ → ℕ → ℕ → Waiting
joined_of w t n k = record {
  room = w.room;
  len = min w.len room_size + n;
  characters = min w.characters room_size + min k room_size;
  since = cond (ltb 0 w.len) w.since t;
}

-- so many fewer wait behind a packet at clock t, in the next slot of the circle; what is left counts as offered then
abbrev pub left_of : Waiting → ℕ → ℕ → ℕ → Waiting
left_of w n k t = record {
  room = onward w.room;
  len = min w.len room_size - n;
  characters = min w.characters room_size - k;
  since = cond (ltb 0 n) t w.since;
}

-- a block of so many bytes is the newest
abbrev pub kept_with : Kept → ℕ → ℕ → Kept
kept_with k n t = record { lens = take level (n ∷ k.lens); ats = take level (t ∷ k.ats); count = min k.count (level - 1) + 1 }
