-- What an offer and a clock call can come to, with the facts that hold where they do.
use Prim.Native.Nat.{ℕ, ◌+◌, ◌≤◌}
use mathlib.Core.Path.{◌≡◌, refl}
use mathlib.Core.List.{List}
use mathlib.Core.Bool.{Bool, true, false, cond, not}
use lib.Dec.{ltb, eqb}
use lib.ListN.{length}
use native.Mathlib.Omega.{arith}
use borrow.Author.Tests.{ltb-false, eqb-true, eqb-false}
use Rattle.text_spec.specs.Utf8.{is_text}
use Rattle.sender_spec.specs.Limits.{room_size}
use Rattle.sender_spec.specs.Settings.{settings_number}
use Rattle.sender_spec.specs.State.{Sender}
use Rattle.sender_spec.specs.Answers
use Rattle.sender_spec.specs.Answers.{CallResult, ClockResult}
use Rattle.sender_spec.specs.Offering.{sender_with}
use Rattle.sender_spec.specs.Calls.{offer_of, offer_refused, clock_of, clock_sent, clock_quiet, sender_at, clock_refused}
use Rattle.sender_spec.specs.Packets.{due, packet_bytes, after_packet}

pub data Offer (s : Sender) (t : ℕ) (x : List ℕ) : CallResult → Type 0 where
  refused : (n : ℕ) → 1 ≤ n → Offer s t x (offer_refused s n)
  joined : settings_number s.settings ≡ 0 → s.clock ≤ t → is_text x ≡ true → length s.waiting + length x ≤ room_size
      → Offer s t x (record { number = 0; sender = sender_with s t x })

pub data Clock (s : Sender) (t : ℕ) (p : List ℕ) : ClockResult → Type 0 where
  refused : (n : ℕ) → Clock s t p (clock_refused s p n)
  quiet : s.clock ≤ t → due s t ≡ false → Clock s t p (clock_quiet s t p)
  sent : settings_number s.settings ≡ 0 → s.clock ≤ t → due s t ≡ true → length (packet_bytes s t) ≤ length p → Clock s t p (clock_sent s t p)

pub offer_shape : (s : Sender) (t : ℕ) (x : List ℕ) → Offer s t x (offer_of s t x)
unfolding offer_of
offer_shape s t x =
    go (eqb (settings_number s.settings) 0) refl (ltb t s.clock) refl (eqb (length x) 0) (is_text x) refl (ltb room_size (length s.waiting + length x)) refl
  where
    go : (a : Bool) → eqb (settings_number s.settings) 0 ≡ a → (b : Bool) → ltb t s.clock ≡ b → (c : Bool)
        → (d : Bool) → is_text x ≡ d → (e : Bool) → ltb room_size (length s.waiting + length x) ≡ e
        → Offer s t x
        (cond (not a) (offer_refused s (settings_number s.settings))
        (cond b (offer_refused s 5) (cond c (offer_refused s 7) (cond (not d) (offer_refused s 6) (cond e (offer_refused s 4) (record { number = 0; sender = sender_with s t x }))))))
    go false p b q c d r e u = refused (settings_number s.settings) (let h : settings_number s.settings ≡ 0 → ⊥ = eqb-false (settings_number s.settings) 0 p in omega arith)
    go true p true q c d r e u = refused 5 (omega arith)
    go true p false q true d r e u = refused 7 (omega arith)
    go true p false q false false r e u = refused 6 (omega arith)
    go true p false q false true r true u = refused 4 (omega arith)
    go true p false q false true r false u =
        joined (eqb-true (settings_number s.settings) 0 p) (ltb-false t s.clock q) r (ltb-false room_size (length s.waiting + length x) u)

pub clock_shape : (s : Sender) (t : ℕ) (p : List ℕ) → Clock s t p (clock_of s t p)
unfolding clock_of
clock_shape s t p =
    go (eqb (settings_number s.settings) 0) refl (ltb t s.clock) refl (due s t) refl (ltb (length p) (length (packet_bytes s t))) refl
  where
    go : (a : Bool) → eqb (settings_number s.settings) 0 ≡ a → (b : Bool) → ltb t s.clock ≡ b → (c : Bool) → due s t ≡ c
        → (d : Bool) → ltb (length p) (length (packet_bytes s t)) ≡ d
        → Clock s t p
        (cond (not a) (clock_refused s p (settings_number s.settings))
        (cond b (clock_refused s p 5) (cond c (cond d (clock_refused s p 8) (clock_sent s t p)) (clock_quiet s t p))))
    go false e b q c r d u = refused (settings_number s.settings)
    go true e true q c r d u = refused 5
    go true e false q false r d u = quiet (ltb-false t s.clock q) r
    go true e false q true r true u = refused 8
    go true e false q true r false u =
        sent (eqb-true (settings_number s.settings) 0 e) (ltb-false t s.clock q) r (ltb-false (length p) (length (packet_bytes s t)) u)

-- the sender behind a clock call, by the call's answer
module _ (s : Sender) (t : ℕ) (p : List ℕ) where
  pub refused_stays : (n : ℕ) → (clock_of s t p).answer ≡ Answers.refused n → s ≡ (clock_of s t p).sender
  refused_stays n = go (clock_of s t p) (clock_shape s t p)
    where
      go : (r : ClockResult) → Clock s t p r → r.answer ≡ Answers.refused n → s ≡ r.sender
      go r (refused m) e = refl
      go r (quiet k d) e = cc
      go r (sent o k d l) e = cc

  pub quiet_keeps : (clock_of s t p).answer ≡ Answers.quiet → sender_at s t ≡ (clock_of s t p).sender
  quiet_keeps = go (clock_of s t p) (clock_shape s t p)
    where
      go : (r : ClockResult) → Clock s t p r → r.answer ≡ Answers.quiet → sender_at s t ≡ r.sender
      go r (refused m) e = cc
      go r (quiet k d) e = refl
      go r (sent o k d l) e = cc

  pub sent_moves : (n : ℕ) → (clock_of s t p).answer ≡ Answers.sent n → after_packet s t ≡ (clock_of s t p).sender
  sent_moves n = go (clock_of s t p) (clock_shape s t p)
    where
      go : (r : ClockResult) → Clock s t p r → r.answer ≡ Answers.sent n → after_packet s t ≡ r.sender
      go r (refused m) e = cc
      go r (quiet k d) e = cc
      go r (sent o k d l) e = refl
