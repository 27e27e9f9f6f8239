-- The code's sender, with the texts and the times lent to it, as the sender of 01.
use Rattle.std.specs.Prelude.{ℕ, min, List}
use Rattle.sender.specs.declared.Sender.{Sender}
use Rattle.sender_spec.specs.Limits.{room_size}
use Rattle.sender_spec.specs.State as State
use Rattle.settings.specs.State.{settings_of, progress_of}
use Rattle.slots.specs.Slots.{waiting_in}
use Rattle.rate.specs.Circle.{slots_of, times_in}
use Rattle.writer.specs.Draft.{kept_in}

-- what waits lies in its slot, and the blocks kept in those before it, in a circle; the times of the last characters lie in
-- another
abbrev pub state_of : Sender → List ℕ → List ℕ → State.Sender
state_of s texts log = record {
  settings = settings_of s.settings;
  clock = s.clock;
  waiting = waiting_in texts s.waiting.room s.waiting.len;
  characters = min s.waiting.characters room_size;
  since = s.waiting.since;
  kept = kept_in texts s.waiting.room s.kept.lens s.kept.ats s.kept.count;
  times = times_in (slots_of s.settings.rate) log s.pace.next s.pace.used;
  progress = progress_of s.progress;
}
