-- What the parts of a packet come to, by the ages and lengths of the blocks kept, newest first.
use Rattle.std.specs.Prelude.{ℕ, suc, ◌%◌, List, ◌++◌, get_or}
use Rattle.writer.specs.declared.Draft.{Draft}
use Rattle.writer.specs.Internal.LastFirst.{last_first}
use Rattle.writer.specs.Internal.Headers.{front_with}
use Rattle.slots.specs.Slots.{slot_of, slot_text}

abbrev pub text_at : List ℕ → ℕ → List ℕ → ℕ → List ℕ
text_at texts room tags i = slot_text texts (slot_of room (suc i)) (get_or tags i 0 % 256)

-- what waits, no packet back
abbrev pub waiting_at : List ℕ → ℕ → ℕ → List ℕ
waiting_at texts room len = slot_text texts (slot_of room 0) len

-- the texts of the first n blocks, oldest first, and what waits
abbrev pub texts_of : List ℕ → ℕ → List ℕ → ℕ → ℕ → List ℕ
texts_of texts room tags len n = last_first (text_at texts room tags) (waiting_at texts room len) n

-- a packet that repeats n blocks
abbrev pub packet_with : Draft → List ℕ → List ℕ → ℕ → List ℕ
packet_with d tags texts n = front_with d.heading tags n ++ texts_of texts d.room tags d.len n
