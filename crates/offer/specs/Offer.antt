-- What an offer comes to, by the parts of a sender that it looks at.
use Rattle.std.specs.Prelude.{ℕ, Result, Ok, Err, ◌+◌, ◌*◌, min, ◌≡◌, List, [], false, length}
use Rattle.text_spec.specs.Front.{characters}
use Rattle.packet.specs.declared.Refusal.{Refusal}
use Rattle.packet.specs.Refusal.{outcome_number}
use Rattle.sender_spec.specs.Limits.{room_size}
use Rattle.sender_spec.specs.State as State
use Rattle.sender_spec.specs.Calls.{offer_of}
use Rattle.slots.specs.Slots.{texts_size, room_of, waiting_in, over_at}
use Rattle.settings.specs.declared.Settings.{Settings}
use Rattle.settings.specs.State.{settings_of}

abbrev pub outcome_of : Result ℕ Refusal → Result Unit Refusal
outcome_of (Ok n) = Ok tt
outcome_of (Err r) = Err r

-- how many characters joined
abbrev pub characters_of : Result ℕ Refusal → ℕ
characters_of (Ok n) = n
characters_of (Err r) = 0

-- a sender with these settings, the latest accepted clock and what waits: no check of an offer looks at the rest
abbrev pub sender_where : Settings → ℕ → List ℕ → State.Sender
sender_where s latest waiting = record {
  settings = settings_of s;
  clock = latest;
  waiting = waiting;
  characters = 0;
  since = 0;
  kept = [];
  times = [];
  progress = record { sent = false; last = 0; last_text = 0; next = 0 };
}

-- the place behind what waits
abbrev pub end_of : ℕ → ℕ → ℕ
end_of room len = room_of room * room_size + min len room_size

abbrev pub texts_by : Result Unit Refusal → ℕ → ℕ → List ℕ → List ℕ → List ℕ
texts_by (Ok _) room len x texts = over_at (end_of room len) x texts
texts_by (Err r) room len x texts = texts

abbrev pub characters_by : Result Unit Refusal → List ℕ → ℕ
characters_by (Ok _) x = characters x
characters_by (Err r) x = 0

-- the number is that of 01's answer, the characters are those of the text, and each byte of the texts is told; so many are lent
pub record Judges (s : Settings) (latest room len t : ℕ) (x texts : List ℕ) (r : Result ℕ Refusal) (texts' : List ℕ) : Type 0 where
  pub number : outcome_number (outcome_of r) ≡ (offer_of (sender_where s latest (waiting_in texts room len)) t x).number
  pub counted : characters_of r ≡ characters_by (outcome_of r) x
  pub bytes : texts' ≡ texts_by (outcome_of r) room len x texts
  pub whole : length texts ≡ texts_size
