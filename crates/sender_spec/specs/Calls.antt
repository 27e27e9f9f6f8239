-- What the sender's calls answer: the opening, an offer and the clock call (01, "Refusal numbers" and "The sender").
use Rattle.std.specs.Prelude.{ℕ, List, [], ◌∷◌, cond, ltb, length}
use Rattle.base.specs.Arrays.{over}
use Rattle.base.specs.Checks.{Check, ◌gives◌, checked}
use Rattle.sender_spec.specs.State.{Settings, Sender, fresh_sender, zero_sender}
use Rattle.sender_spec.specs.Settings.{settings_check}
use Rattle.sender_spec.specs.Answers.{CallResult, refused, quiet, sent, ClockResult}
use Rattle.sender_spec.specs.Offering.{offer_checks, sender_with}
use Rattle.sender_spec.specs.Packets.{due, packet_bytes, after_packet}
use Rattle.sender_spec.specs.Clocking.{clock_checks}

-- "A refused opening gives its number and, where a value must stand beside it, a sender .. of all zeros"
abbrev pub sender_refused : ℕ → CallResult
sender_refused n = record { number = n; sender = zero_sender }

unfoldable pub open_sender : Settings → CallResult
open_sender s = checked sender_refused (settings_check s ∷ []) (record { number = 0; sender = fresh_sender s })

-- "Any other refusal gives its number, the state as it came in"
abbrev pub offer_refused : Sender → ℕ → CallResult
offer_refused s n = record { number = n; sender = s }

unfoldable pub offer_of : Sender → ℕ → List ℕ → CallResult
offer_of s t x = checked (offer_refused s) (offer_checks s t x) (record { number = 0; sender = sender_with s t x })

-- "lent packet space shorter than the packet due"
abbrev pub space_checks : Sender → ℕ → List ℕ → List Check
space_checks s t p = ltb (length p) (length (packet_bytes s t)) gives 8 ∷ []

-- "Any other refusal gives its number, the state as it came in, and lent bytes untouched"
abbrev pub clock_refused : Sender → List ℕ → ℕ → ClockResult
clock_refused s p n = record { answer = refused n; sender = s; lent = p }

abbrev pub sender_at : Sender → ℕ → Sender
sender_at s t = record {
  settings = s.settings;
  clock = t;
  waiting = s.waiting;
  characters = s.characters;
  since = s.since;
  kept = s.kept;
  times = s.times;
  progress = s.progress;
}

-- "the call answers "quiet", touches no byte and only keeps t"
abbrev pub clock_quiet : Sender → ℕ → List ℕ → ClockResult
clock_quiet s t p = record { answer = quiet; sender = sender_at s t; lent = p }

-- the packet is written to the front of the lent space
abbrev pub clock_sent : Sender → ℕ → List ℕ → ClockResult
clock_sent s t p = record { answer = sent (length (packet_bytes s t)); sender = after_packet s t; lent = over (packet_bytes s t) p }

unfoldable pub clock_of : Sender → ℕ → List ℕ → ClockResult
clock_of s t p =
    checked (clock_refused s p) (clock_checks s t)
    (cond (due s t) (checked (clock_refused s p) (space_checks s t p) (clock_sent s t p)) (clock_quiet s t p))
