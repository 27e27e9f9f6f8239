-- What opening a sender answers.
use Rattle.std.specs.Prelude.{ℕ, Result, Ok, Err, ◌≡◌, List, replicate}
use Rattle.settings.specs.declared.Settings.{Settings}
use Rattle.sender.specs.declared.Sender.{Sender}
use Rattle.packet.specs.declared.Refusal.{Refusal}
use Rattle.packet.specs.Refusal.{outcome_number}
use Rattle.packet_spec.specs.Limits.{level}
use Rattle.sender_spec.specs.Calls.{open_sender}
use Rattle.settings.specs.State.{settings_of}
use Rattle.sender.specs.State.{state_of}

-- the first sequence number is next, and all else is zero
abbrev pub fresh_of : Settings → Sender
fresh_of s = record {
  settings = s;
  clock = 0;
  waiting = record { room = 0; len = 0; characters = 0; since = 0 };
  kept = record { lens = replicate level 0; ats = replicate level 0; count = 0 };
  pace = record { next = 0; used = 0 };
  progress = record { sent = 0; last = 0; last_text = 0; next = s.sequence };
}

abbrev pub zero_record : Sender
zero_record = fresh_of (record { level = 0; buffering = 0; rate = 0; t140 = 0; red = 0; sequence = 0; timestamp = 0; source = 0 })

-- the outcome of an opening, and the record that is left to its caller: all zeros where it is refused
abbrev pub opened_outcome : Result Sender Refusal → Result Unit Refusal
opened_outcome (Ok s) = Ok tt
opened_outcome (Err r) = Err r

abbrev pub opened_record : Result Sender Refusal → Sender
opened_record (Ok s) = s
opened_record (Err r) = zero_record

abbrev pub opened_by : Result Unit Refusal → Settings → Sender
opened_by (Ok _) s = fresh_of s
opened_by (Err r) s = zero_record

-- whatever texts and times are lent, the sender is that of 01; and the fields are told besides
pub record Opens (s : Settings) (r : Result Sender Refusal) : Type 0 where
  pub result : (texts log : List ℕ) → record { number = outcome_number (opened_outcome r); sender = state_of (opened_record r) texts log } ≡ open_sender (settings_of s)
  pub fields : opened_record r ≡ opened_by (opened_outcome r) s
