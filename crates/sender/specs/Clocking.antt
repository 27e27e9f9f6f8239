-- What the clock call answers.
use Rattle.std.specs.Prelude.{ℕ, Some, None, Ok, Err, ◌+◌, ◌%◌, min, ◌≡◌, List, Bool, true, cond, eqb, length}
use Rattle.sender.specs.declared.Sender.{Sender}
use Rattle.text_spec.specs.Front.{front}
use Rattle.sender_spec.specs.Limits.{room_size}
use Rattle.sender_spec.specs.Packets.{going, taken}
use Rattle.sender_spec.specs.Calls.{clock_of}
use Rattle.writer.specs.declared.Draft.{Draft}
use Rattle.writer.specs.Draft.{Answered, clock_answer, answer_by}
use Rattle.slots.specs.declared.Waiting.{Waiting}
use Rattle.slots.specs.Slots.{waiting_in, rest_kept}
use Rattle.slots.specs.Held.{left_of, kept_with}
use Rattle.rate.specs.declared.Pace.{Pace}
use Rattle.rate.specs.Circle.{slots_of, spent_in, pace_after}
use Rattle.settings.specs.State.{settings_of, progress_of, marker_of, progress_behind}
use Rattle.settings.specs.Judging.{Judgement, ready, judgement_of}
use Rattle.sender.specs.State.{state_of}

-- what the call at clock t comes to, before the texts are looked at
abbrev pub judgement_at : Sender → ℕ → Judgement
judgement_at s t = judgement_of (settings_of s.settings) s.clock (progress_of s.progress) t

-- M of a packet that takes so many bytes of what waits
abbrev pub marker_due : Sender → ℕ → Bool
marker_due s n = marker_of s.progress s.settings.buffering n s.waiting.since

-- how many bytes a packet takes of what waits, of whose c characters k may go
abbrev pub taken_bytes : List ℕ → Waiting → ℕ → ℕ → ℕ
taken_bytes texts w c k = cond (eqb k c) (min w.len room_size) (length (front k (waiting_in texts w.room w.len)))

-- what the packet at clock t is written from, with this M and so many bytes of what waits
abbrev pub draft_of : Sender → ℕ → Bool → ℕ → Draft
draft_of s t m n = record {
  heading = record {
    level = s.settings.level;
    t140 = s.settings.t140;
    red = s.settings.red;
    marker = m;
    sequence = s.progress.next;
    timestamp = (s.settings.timestamp + t) % 4294967296;
    source = s.settings.source;
  };
  clock = t;
  kept = s.kept;
  room = s.waiting.room;
  len = n;
}

-- the clock alone is changed
abbrev pub record_at : Sender → ℕ → Sender
record_at s t = record {
  settings = s.settings;
  clock = t;
  waiting = s.waiting;
  kept = s.kept;
  pace = s.pace;
  progress = s.progress;
}

-- n bytes of what waited, k characters, are the newest block, in its place; p is the pace behind them
abbrev pub record_after : Sender → ℕ → ℕ → ℕ → Pace → Sender
record_after s t n k p = record {
  settings = s.settings;
  clock = t;
  waiting = left_of s.waiting n k t;
  kept = kept_with s.kept n t;
  pace = p;
  progress = progress_behind s.progress n t;
}

abbrev pub record_behind : Answered → Sender → ℕ → ℕ → ℕ → Pace → Sender
record_behind (Err r) s t n k p = s
record_behind (Ok None) s t n k p = record_at s t
record_behind (Ok (Some l)) s t n k p = record_after s t n k p

abbrev pub pace_behind : Sender → ℕ → Pace
pace_behind s k = pace_after s.pace s.settings.rate k

-- what is left of what waits begins the next slot
abbrev pub texts_behind : Answered → Sender → List ℕ → ℕ → List ℕ
texts_behind (Err r) s texts n = texts
texts_behind (Ok None) s texts n = texts
texts_behind (Ok (Some l)) s texts n = rest_kept s.waiting.room s.waiting.len n texts

-- the clock stands in the next k slots
abbrev pub log_behind : Answered → Sender → List ℕ → ℕ → ℕ → List ℕ
log_behind (Err r) s log t k = log
log_behind (Ok None) s log t k = log
log_behind (Ok (Some l)) s log t k = spent_in (slots_of s.settings.rate) log s.pace.next t k

-- the sender that came and the one that is left are those of 01; and the fields, each byte of the texts and each time of the log are
-- told besides
pub record Clocks (s : Sender) (texts log : List ℕ) (t : ℕ) (p : List ℕ) (r : Answered) (s' : Sender) (texts' log' p' : List ℕ) : Type 0 where
  pub result : record { answer = clock_answer r; sender = state_of s' texts' log'; lent = p' } ≡ clock_of (state_of s texts log) t p
  pub fields : s' ≡ record_behind r s t (length (taken (state_of s texts log) t)) (going (state_of s texts log) t) (pace_behind s (going (state_of s texts log) t))
  pub bytes : texts' ≡ texts_behind r s texts (length (taken (state_of s texts log) t))
  pub times : log' ≡ log_behind r s log t (going (state_of s texts log) t)

-- what a call that is ready answers, by the packet's length n
abbrev pub Sends : Sender → List ℕ → List ℕ → ℕ → List ℕ → ℕ → Sender → List ℕ → List ℕ → List ℕ → Type 0
Sends s texts log t p n s' texts' log' p' =
    ready (judgement_at s t) ≡ true → Clocks s texts log t p (answer_by n (length p)) s' texts' log' p'
