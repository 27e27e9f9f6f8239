-- The code's settings and progress as those of 01.
use Rattle.std.specs.Prelude.{ℕ, ◌-◌, Bool, cond, not, ◌&&◌, ◌||◌, nat_lt}
use Rattle.base.specs.Flags.{is_set}
use Rattle.delivery.specs.Numbers.{next}
use Rattle.settings.specs.declared.Settings.{Settings}
use Rattle.settings.specs.declared.Progress.{Progress}
use Rattle.sender_spec.specs.State as State

abbrev pub settings_of : Settings → State.Settings
settings_of s = record {
  level = s.level;
  buffering = s.buffering;
  rate = s.rate;
  t140 = s.t140;
  red = s.red;
  sequence = s.sequence;
  timestamp = s.timestamp;
  source = s.source;
}

abbrev pub progress_of : Progress → State.Progress
progress_of p = record { sent = is_set p.sent; last = p.last; last_text = p.last_text; next = p.next }

-- M of a packet that takes n bytes of what waits, the first of them offered at `since`
abbrev pub marker_of : Progress → ℕ → ℕ → ℕ → Bool
marker_of p buffering n since = not (is_set p.sent) || (nat_lt 0 n && nat_lt buffering (since - p.last_text))

-- behind a packet that takes so many bytes at clock t
abbrev pub progress_behind : Progress → ℕ → ℕ → Progress
progress_behind p n t = record { sent = 1; last = t; last_text = cond (nat_lt 0 n) t p.last_text; next = next p.next }
