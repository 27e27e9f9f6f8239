-- What offering text answers.
use Rattle.std.specs.Prelude.{ℕ, Result, Ok, Err, ◌≡◌, List, length}
use Rattle.text_spec.specs.Front.{characters}
use Rattle.sender.specs.declared.Sender.{Sender}
use Rattle.packet.specs.declared.Refusal.{Refusal}
use Rattle.packet.specs.Refusal.{outcome_number}
use Rattle.sender_spec.specs.Calls.{offer_of}
use Rattle.slots.specs.Held.{joined_of}
use Rattle.offer.specs.Offer.{texts_by}
use Rattle.sender.specs.State.{state_of}

-- so many bytes and characters more wait
abbrev pub record_with : Sender → ℕ → ℕ → ℕ → Sender
record_with s t n k = record {
  settings = s.settings;
  clock = t;
  waiting = joined_of s.waiting t n k;
  kept = s.kept;
  pace = s.pace;
  progress = s.progress;
}

abbrev pub record_by : Result Unit Refusal → Sender → ℕ → List ℕ → Sender
record_by (Ok _) s t x = record_with s t (length x) (characters x)
record_by (Err r) s t x = s

-- the same, by the characters that were counted
abbrev pub record_in : Result ℕ Refusal → Sender → ℕ → ℕ → Sender
record_in (Ok k) s t n = record_with s t n k
record_in (Err r) s t n = s

-- whatever times are lent, the sender that came and the one that is left are those of 01; and the fields and each byte of the texts
-- are told besides
pub record Offers (s : Sender) (texts : List ℕ) (t : ℕ) (x : List ℕ) (r : Result Unit Refusal) (s' : Sender) (texts' : List ℕ) : Type 0 where
  pub result : (log : List ℕ) → record { number = outcome_number r; sender = state_of s' texts' log } ≡ offer_of (state_of s texts log) t x
  pub fields : s' ≡ record_by r s t x
  pub bytes : texts' ≡ texts_by r s.waiting.room s.waiting.len x texts
