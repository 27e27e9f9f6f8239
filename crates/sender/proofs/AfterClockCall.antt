-- The sender behind a packet.
use Prim.Native.Nat.{ℕ, ◌-◌, ◌≤◌, ◌<◌, min}
use mathlib.Core.Path.{◌≡◌, ◌∙◌, ap}
use mathlib.Core.List.{List, ◌∷◌, ◌++◌}
use mathlib.Core.Bool.{true, cond}
use native.Mathlib.Omega.{arith}
use lib.Dec.{ltb}
use lib.ListN.{length, take, replicate}
use Rattle.sender.specs.declared.Sender.{Sender}
use Rattle.packet_spec.specs.Limits.{level}
use Rattle.delivery.specs.Numbers.{next}
use Rattle.sender_spec.specs.Limits.{room_size}
use Rattle.sender_spec.specs.State as State
use Rattle.sender_spec.specs.Rate.{limit_of}
use Rattle.sender_spec.specs.Packets.{going, taken, times_after, after_packet}
use Rattle.sender_spec.proofs.SettingsPass.{Passed}
use Rattle.slots.specs.Slots.{texts_size, rest_kept}
use Rattle.slots.proofs.Rest.{waiting_rest}
use Rattle.rate.specs.Circle.{slots_of, log_size, times_in, spent_in, pace_after}
use Rattle.rate.proofs.Circle.{slots_limit}
use Rattle.sender_spec.proofs.AllowedTurns.{allowed_within}
use Rattle.rate.proofs.Spent.{spent_times}
use Rattle.settings.specs.State.{settings_of}
use Rattle.sender.specs.State.{state_of}
use Rattle.sender.specs.Clocking.{record_after, pace_behind}
use Rattle.sender.proofs.Taken.{taken_lies}
use Rattle.sender.proofs.Ring.{kept_behind}

module _ (s : Sender) (texts log : List ℕ) (t : ℕ) (size : length texts ≡ texts_size) (long : length log ≡ log_size) (passed : Passed (settings_of s.settings)) where
  abbrev state : State.Sender
  state = state_of s texts log

  abbrev n : ℕ
  n = length (taken state t)

  abbrev k : ℕ
  k = going state t

  abbrev rate : ℕ
  rate = s.settings.rate

  -- a rate that passes has as many slots as a window has characters
  limit : slots_of rate ≡ limit_of (settings_of s.settings)
  limit = slots_limit rate passed.rated.1

  times : times_in (slots_of rate) (spent_in (slots_of rate) log s.pace.next t k) (pace_after s.pace rate k).next (pace_after s.pace rate k).used ≡ times_after state t
  times =
      let few : k ≤ slots_of rate = omega (arith, allowed_within (limit_of (settings_of s.settings)) state.times t state.characters, limit) in
      let some : 0 < slots_of rate = omega (arith, passed.rated.0, limit) in
      spent_times (slots_of rate) log s.pace.next s.pace.used t k few some (omega (arith, limit, passed.rated.1))
      ∙ ap (λ (m : ℕ). take m (replicate k t ++ state.times)) limit

  pub after_is : state_of (record_after s t n k (pace_behind s k)) (rest_kept s.waiting.room s.waiting.len n texts) (spent_in (slots_of rate) log s.pace.next t k) ≡ after_packet state t
  after_is =
      let w = waiting_rest s.waiting.room s.waiting.len n texts size in
      let kept = kept_behind texts s.waiting.room s.waiting.len n t s.kept.count s.kept.lens s.kept.ats size
      ∙ ap (λ (x : List ℕ). take level (record { text = x; at = t } ∷ state.kept)) (taken_lies s texts log t size) in
      let held : min (min s.waiting.characters room_size - k) room_size ≡ min s.waiting.characters room_size - k = omega arith in
      λ i. record {
        settings = settings_of s.settings;
        clock = t;
        waiting = w i;
        characters = held i;
        since = cond (ltb 0 n) t s.waiting.since;
        kept = kept i;
        times = times i;
        progress = record { sent = true; last = t; last_text = cond (ltb 0 n) t s.progress.last_text; next = next s.progress.next };
      }
