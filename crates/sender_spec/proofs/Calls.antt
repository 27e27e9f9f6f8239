-- What an opening, an offer and a clock call come to, by plain facts.
use Prim.Native.Nat.{ℕ, ◌+◌, ◌<◌, ◌≤◌}
use mathlib.Core.Path.{◌≡◌, ap, sym}
use mathlib.Core.List.{List}
use mathlib.Core.Bool.{true, false}
use native.Mathlib.Omega.{arith}
use lib.ListN.{length}
use borrow.Author.Tests.{lt-ltb, le-ltb, eq-eqb, ne_eqb}
use Rattle.packet_spec.specs.Limits.{level}
use Rattle.packet_spec.specs.Header.{types_bad}
use Rattle.text_spec.specs.Utf8.{is_text}
use Rattle.sender_spec.specs.Limits.{room_size}
use Rattle.sender_spec.specs.Settings.{buffering_bad, rate_bad, settings_number}
use Rattle.sender_spec.specs.State.{Settings, Sender, fresh_sender}
use Rattle.sender_spec.specs.Answers.{ClockResult}
use Rattle.sender_spec.specs.Calls.{open_sender, sender_refused, offer_of, offer_refused, clock_of, clock_sent, clock_quiet, clock_refused}
use Rattle.sender_spec.specs.Offering.{sender_with}
use Rattle.sender_spec.specs.Packets.{due, packet_bytes}

-- settings
module _ (s : Settings) where
  pub settings_1 : level < s.level → settings_number s ≡ 1
  unfolding settings_number
  settings_1 h = rw (lt-ltb level s.level h)

  module _ (few : s.level ≤ level) where
    pub settings_2 : buffering_bad s.buffering ≡ true → settings_number s ≡ 2
    unfolding settings_number
    settings_2 h = rw (le-ltb level s.level few, h)

    module _ (buffered : buffering_bad s.buffering ≡ false) where
      pub settings_3 : types_bad s.t140 s.red ≡ true → settings_number s ≡ 3
      unfolding settings_number
      settings_3 h = rw (le-ltb level s.level few, buffered, h)

      module _ (typed : types_bad s.t140 s.red ≡ false) where
        pub settings_9 : rate_bad s.rate ≡ true → settings_number s ≡ 9
        unfolding settings_number
        settings_9 h = rw (le-ltb level s.level few, buffered, typed, h)

        pub settings_pass : rate_bad s.rate ≡ false → settings_number s ≡ 0
        unfolding settings_number
        settings_pass h = rw (le-ltb level s.level few, buffered, typed, h)

-- an opening
module _ (s : Settings) (n : ℕ) (e : n ≡ settings_number s) where
  pub open_accepted : n ≡ 0 → open_sender s ≡ record { number = n; sender = fresh_sender s }
  unfolding open_sender
  open_accepted z = rw (← e, z)

  pub open_refused : 1 ≤ n → open_sender s ≡ sender_refused n
  unfolding open_sender
  open_refused h = rw (← e, ne_eqb n 0 (λ z. omega arith))

-- an offer
module _ (s : Sender) (t : ℕ) (x : List ℕ) (n : ℕ) (e : n ≡ settings_number s.settings) where
  pub offer_settings : 1 ≤ n → offer_of s t x ≡ offer_refused s n
  unfolding offer_of
  offer_settings h = rw (← e, ne_eqb n 0 (λ z. omega arith))

  module _ (ok : n ≡ 0) where
    pub offer_5 : t < s.clock → offer_of s t x ≡ offer_refused s 5
    unfolding offer_of
    offer_5 h = rw (← e, ok, lt-ltb t s.clock h)

    module _ (later : s.clock ≤ t) where
      pub offer_7 : length x ≡ 0 → offer_of s t x ≡ offer_refused s 7
      unfolding offer_of
      offer_7 h = rw (← e, ok, le-ltb t s.clock later, eq-eqb (length x) 0 h)

      module _ (some : length x ≡ 0 → ⊥) where
        pub offer_6 : is_text x ≡ false → offer_of s t x ≡ offer_refused s 6
        unfolding offer_of
        offer_6 h = rw (← e, ok, le-ltb t s.clock later, ne_eqb (length x) 0 some, h)

        module _ (text : is_text x ≡ true) where
          pub offer_4 : room_size < length s.waiting + length x → offer_of s t x ≡ offer_refused s 4
          unfolding offer_of
          offer_4 h = rw (← e, ok, le-ltb t s.clock later, ne_eqb (length x) 0 some, text, lt-ltb room_size (length s.waiting + length x) h)

          pub offer_joined : length s.waiting + length x ≤ room_size → offer_of s t x ≡ record { number = 0; sender = sender_with s t x }
          unfolding offer_of
          offer_joined h = rw (← e, ok, le-ltb t s.clock later, ne_eqb (length x) 0 some, text, le-ltb room_size (length s.waiting + length x) h)

-- a clock call
module _ (s : Sender) (t : ℕ) (p : List ℕ) (n : ℕ) (e : n ≡ settings_number s.settings) where
  pub clock_settings : 1 ≤ n → clock_of s t p ≡ clock_refused s p n
  unfolding clock_of
  clock_settings h = rw (← e, ne_eqb n 0 (λ z. omega arith))

  module _ (ok : n ≡ 0) where
    pub clock_5 : t < s.clock → clock_of s t p ≡ clock_refused s p 5
    unfolding clock_of
    clock_5 h = rw (← e, ok, lt-ltb t s.clock h)

    module _ (later : s.clock ≤ t) where
      pub clock_quiet_lem : due s t ≡ false → clock_of s t p ≡ clock_quiet s t p
      unfolding clock_of
      clock_quiet_lem h = rw (← e, ok, le-ltb t s.clock later, h)

      module _ (is_due_lem : due s t ≡ true) where
        pub clock_8 : length p < length (packet_bytes s t) → clock_of s t p ≡ clock_refused s p 8
        unfolding clock_of
        clock_8 h = rw (← e, ok, le-ltb t s.clock later, is_due_lem, lt-ltb (length p) (length (packet_bytes s t)) h)

        pub clock_sent_lem : length (packet_bytes s t) ≤ length p → clock_of s t p ≡ clock_sent s t p
        unfolding clock_of
        clock_sent_lem h = rw (← e, ok, le-ltb t s.clock later, is_due_lem, le-ltb (length p) (length (packet_bytes s t)) h)

-- the answer, and the bytes lent, of a result that is known
pub answer_of : {r x : ClockResult} → r ≡ x → (x.answer ≡ r.answer) × (x.lent ≡ r.lent)
answer_of e = (ap (λ (y : ClockResult). y.answer) (sym e), ap (λ (y : ClockResult). y.lent) (sym e))
