-- What the calls leave is good: waiting text and kept blocks may be sent, and the kept blocks' times fall.
use Prim.Native.Nat.{ℕ, suc, ◌+◌, ◌-◌, ◌≤◌, min}
use mathlib.Core.Path.{◌≡◌, ◌∙◌, refl, ap, sym}
use mathlib.Core.List.{List, [], ◌∷◌, ◌++◌}
use mathlib.Core.Bool.{true}
use native.Mathlib.Omega.{arith}
use lib.Dec.{eqb}
use lib.ListN.{length, drop, length-append}
use borrow.Author.Tests.{eqb-true}
use Rattle.packet_spec.specs.Limits.{level}
use Rattle.text_spec.specs.Utf8.{Text, Characters, Stops, text_of, well_formed, is_text}
use Rattle.text_spec.specs.Front.{counted, characters, front}
use Rattle.sender_spec.specs.Limits.{room_size}
use Rattle.sender_spec.specs.Settings.{settings_number}
use Rattle.sender_spec.specs.State.{Settings, SentBlock, Sender, fresh_sender}
use Rattle.sender_spec.specs.Answers.{CallResult, ClockResult}
use Rattle.sender_spec.specs.Calls.{offer_of, clock_of}
use Rattle.sender_spec.specs.Packets.{going, taken, left, due, after_packet}
use Rattle.sender_spec.specs.Rate.{limit_of}
use Rattle.text_spec.proofs.TextJoin.{text_join}
use Rattle.text_spec.proofs.FrontLaws.{join_counts, count_within, front_rest, front_counts, rest_counts, front_all}
use Rattle.base.proofs.Tests.{by_test}
use Rattle.sender_spec.proofs.AllowedTurns.{allowed_few}
use Rattle.base.specs.Every.{Every}
use Rattle.base.proofs.EveryLaws.{every_take}
use Rattle.sender_spec.proofs.TimesFall.{TimesFall, behind_last, times_take, due_fall}
use Rattle.sender_spec.proofs.Shapes.{Offer, joined, Clock, quiet, sent, offer_shape, clock_shape}
use Rattle.sender_spec.proofs.Shapes

-- text that may be sent: well formed, and at most a block
abbrev pub Sendable : List ℕ → Type 0
Sendable x = (is_text x ≡ true) × (length x ≤ room_size)

abbrev pub AllSendable : List SentBlock → Type 0
AllSendable bs = Every (λ (b : SentBlock). Sendable b.text) bs

-- the text that waits is counted; the times of the blocks kept fall from the last packet's on, and before the first none is kept
pub record Good (s : Sender) : Type 0 where
  pub waiting : Sendable s.waiting
  pub counts : text_of s.waiting ≡ Characters s.characters
  pub kept : AllSendable s.kept
  pub fall : TimesFall (behind_last s.progress) s.kept

nothing_sendable : Sendable []
nothing_sendable = (refl, omega arith)

pub fresh_good : (x : Settings) → Good (fresh_sender x)
fresh_good x = record { waiting = nothing_sendable; counts = refl; kept = tt; fall = tt }

joined_sendable : (x y : List ℕ) → Sendable x → is_text y ≡ true → length x + length y ≤ room_size → Sendable (x ++ y)
joined_sendable x y h e k = (text_join x y h.0 e, omega (arith, length-append x y))

-- text is so many characters
pub text_counts : (x : List ℕ) → is_text x ≡ true → text_of x ≡ Characters (characters x)
text_counts x = go (text_of x)
  where
    go : (t : Text) → well_formed t ≡ true → t ≡ Characters (counted t)
    go (Characters n) e = refl
    go (Stops at) e = absurd (let z : ◌≡◌ {A = ℕ} 0 1 = cc in omega arith)

pub offer_good : (s : Sender) (t : ℕ) (x : List ℕ) → Good s → Good (offer_of s t x).sender
offer_good s t x g = go (offer_of s t x) (offer_shape s t x)
  where
    go : (r : CallResult) → Offer s t x r → Good r.sender
    go r (Shapes.refused n h) = g
    go r (joined ok later text room) = record {
      waiting = joined_sendable s.waiting x g.waiting text room;
      counts =
          let both = join_counts s.waiting x s.characters (characters x) g.counts (text_counts x text) in
          let few = count_within (s.waiting ++ x) (s.characters + characters x) both in
          let all : s.characters + characters x ≡ min (s.characters + characters x) room_size = omega (arith, length-append s.waiting x) in
          both ∙ ap Characters all;
      kept = g.kept;
      fall = g.fall;
    }

-- what a packet takes is a front of what waits: so many characters
module _ (s : Sender) (t : ℕ) (g : Good s) where
  abbrev few : going s t ≤ s.characters
  few = allowed_few (limit_of s.settings) s.times t s.characters

  pub taken_front : taken s t ≡ front (going s t) s.waiting
  taken_front =
      by_test (λ (x : List ℕ). x ≡ front (going s t) s.waiting) (eqb (going s t) s.characters)
      (λ e. let n : going s t ≡ s.characters = eqb-true (going s t) s.characters e in sym (front_all (going s t) s.characters s.waiting g.counts (omega arith)))
      (λ e. refl)

  pub taken_counts : text_of (taken s t) ≡ Characters (going s t)
  taken_counts =
      let h = few in
      let n : min (going s t) s.characters ≡ going s t = omega arith in
      ap text_of taken_front ∙ front_counts (going s t) s.characters s.waiting g.counts ∙ ap Characters n

  left_counts : text_of (left s t) ≡ Characters (s.characters - going s t)
  left_counts =
      let h = few in
      let n : s.characters - min (going s t) s.characters ≡ s.characters - going s t = omega arith in
      ap (λ (x : List ℕ). text_of (drop (length x) s.waiting)) taken_front ∙ rest_counts (going s t) s.characters s.waiting g.counts ∙ ap Characters n

  -- with what it leaves it is what waited
  pub takes_front : taken s t ++ left s t ≡ s.waiting
  takes_front = ap (λ (x : List ℕ). x ++ drop (length x) s.waiting) taken_front ∙ front_rest (going s t) s.waiting

  abbrev lengths : length (taken s t) + length (left s t) ≡ length s.waiting
  lengths = sym (length-append (taken s t) (left s t)) ∙ ap length takes_front

  -- the primary of a packet, and what waits behind it
  pub taken_good : Sendable (taken s t)
  taken_good = let e = lengths in let h = g.waiting.1 in (ap well_formed taken_counts, omega arith)

  left_good : Sendable (left s t)
  left_good = let e = lengths in let h = g.waiting.1 in (ap well_formed left_counts, omega arith)

  after_good : settings_number s.settings ≡ 0 → due s t ≡ true → Good (after_packet s t)
  after_good ok is_due_lem = record {
    waiting = left_good;
    counts = left_counts;
    kept = every_take (λ (b : SentBlock). Sendable b.text) level (record { text = taken s t; at = t } ∷ s.kept) (taken_good, g.kept);
    fall = times_take (suc t) level (record { text = taken s t; at = t } ∷ s.kept) (omega arith, due_fall s t ok is_due_lem g.fall);
  }

pub clock_good : (s : Sender) (t : ℕ) (p : List ℕ) → Good s → Good (clock_of s t p).sender
clock_good s t p g = go (clock_of s t p) (clock_shape s t p)
  where
    go : (r : ClockResult) → Clock s t p r → Good r.sender
    go r (Shapes.refused n) = g
    go r (quiet later not_due) = record { waiting = g.waiting; counts = g.counts; kept = g.kept; fall = g.fall }
    go r (sent ok later is_due_lem fits) = after_good s t g ok is_due_lem
