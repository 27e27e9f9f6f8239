-- What a sender is (01, "Supplied and not supplied" and "The sender").
use Rattle.std.specs.Prelude.{ℕ, List, [], Bool, false, ltb, length}
use Rattle.delivery.specs.Numbers.{wrapped}

-- the repeat level R, the buffering time in ms, the rate in characters per second, the two payload types, the first sequence
-- number, the first timestamp and the source number
pub record Settings : Type 0 where
  pub level : ℕ
  pub buffering : ℕ
  pub rate : ℕ
  pub t140 : ℕ
  pub red : ℕ
  pub sequence : ℕ
  pub timestamp : ℕ
  pub source : ℕ

-- a block that was sent, and when
pub record SentBlock : Type 0 where
  pub text : List ℕ
  pub at : ℕ

-- whether a packet was sent, when the last one was, when the last one with text was, and the next sequence number
pub record Progress : Type 0 where
  pub sent : Bool
  pub last : ℕ
  pub last_text : ℕ
  pub next : ℕ

-- the latest accepted clock; the text that waits, its characters, and when its first byte was offered; the last blocks sent,
-- newest first; when each of the last characters was sent, newest first
pub record Sender : Type 0 where
  pub settings : Settings
  pub clock : ℕ
  pub waiting : List ℕ
  pub characters : ℕ
  pub since : ℕ
  pub kept : List SentBlock
  pub times : List ℕ
  pub progress : Progress

abbrev pub has_text : List ℕ → Bool
has_text x = ltb 0 (length x)

-- nothing offered and nothing sent: "Clock values are 64-bit ms from the opening"
abbrev pub fresh_sender : Settings → Sender
fresh_sender s = record {
  settings = s;
  clock = 0;
  waiting = [];
  characters = 0;
  since = 0;
  kept = [];
  times = [];
  progress = record { sent = false; last = 0; last_text = 0; next = wrapped s.sequence };
}

abbrev pub zero_settings : Settings
zero_settings = record { level = 0; buffering = 0; rate = 0; t140 = 0; red = 0; sequence = 0; timestamp = 0; source = 0 }

-- "a sender .. of all zeros"
abbrev pub zero_sender : Sender
zero_sender = fresh_sender zero_settings
