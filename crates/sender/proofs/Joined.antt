-- The sender behind an offer, by what the judgement of the offer says.
use Prim.Native.Nat.{ℕ, suc, ◌+◌, ◌≤◌, min}
use mathlib.Core.Path.{◌≡◌, ◌∙◌, refl, ap, sym}
use mathlib.Core.List.{List, [], ◌∷◌}
use mathlib.Core.Bool.{Bool, true, false, cond, not}
use native.Mathlib.Omega.{arith}
use lib.Dec.{eqb}
use lib.ListN.{length, take}
use borrow.Author.Tests.{ltb-false, eqb-true, eqb-false, not-false}
use Rattle.sender.specs.declared.Sender.{Sender}
use Rattle.packet.specs.Refusal.{number}
use Rattle.packet.proofs.Names.{number_positive}
use Rattle.base.specs.Checks.{Check, number_by}
use Rattle.base.proofs.InOrder.{NoneApplies, number_first, refused_by_lem, none_applies}
use Rattle.text_spec.specs.Utf8.{is_text}
use Rattle.text_spec.specs.Front.{characters}
use Rattle.sender_spec.specs.Limits.{room_size}
use Rattle.sender_spec.specs.State as State
use Rattle.sender_spec.specs.Settings.{settings_number}
use Rattle.sender_spec.specs.Answers.{CallResult}
use Rattle.sender_spec.specs.Offering.{offer_checks, sender_with}
use Rattle.sender_spec.specs.Calls.{offer_of, offer_refused}
use Rattle.sender_spec.proofs.Calls.{offer_joined}
use Rattle.slots.specs.Slots.{slots, texts_size, over_at}
use Rattle.slots.proofs.Slots.{waiting_length, waiting_some}
use Rattle.writer.specs.Draft.{blocks_from}
use Rattle.settings.specs.State.{settings_of, progress_of}
use Rattle.std.specs.Prelude.{Result, Ok, Err}
use Rattle.packet.specs.declared.Refusal.{Refusal}
use Rattle.offer.specs.Offer.{outcome_of, sender_where, end_of, Judges}
use Rattle.offer.proofs.Joined.{waiting_joined, back_stays}
use Rattle.sender.specs.State.{state_of}
use Rattle.sender.specs.Offering.{record_with, record_in, Offers}

-- text joins what waits, in its slot; the blocks kept stay
module _ (s : Sender) (texts x : List ℕ) (size : length texts ≡ texts_size) (fits : min s.waiting.len room_size + length x ≤ room_size) where
  abbrev after : List ℕ
  after = over_at (end_of s.waiting.room s.waiting.len) x texts

  blocks : (back : ℕ) (lens ats : List ℕ) → 1 ≤ back → back + length lens ≤ slots → blocks_from after s.waiting.room back lens ats ≡ blocks_from texts s.waiting.room back lens ats
  blocks back [] ats h k = refl
  blocks back (n ∷ lens) [] h k = refl
  blocks back (n ∷ lens) (t ∷ ats) h k =
      let e = back_stays s.waiting.room s.waiting.len texts x size fits back n h (omega arith) in
      let f = blocks (suc back) lens ats (omega arith) (omega arith) in
      λ i. record { text = e i; at = t } ∷ f i

  joined_is : (t : ℕ) (log : List ℕ) → 1 + length s.kept.lens ≤ slots → state_of (record_with s t (length x) (characters x)) after log ≡ sender_with (state_of s texts log) t x
  joined_is t log few =
      let w = waiting_joined s.waiting.room s.waiting.len texts x size fits in
      let b = blocks 1 s.kept.lens s.kept.ats (omega arith) few in
      let since = ap (λ (b : Bool). cond b s.waiting.since t) (sym (waiting_some texts size s.waiting.room s.waiting.len)) in
      let counts : min (min s.waiting.characters room_size + min (characters x) room_size) room_size ≡ min (min s.waiting.characters room_size + characters x) room_size = omega arith in
      λ i. record {
        settings = settings_of s.settings;
        clock = t;
        waiting = w i;
        characters = counts i;
        since = since i;
        kept = take s.kept.count (b i);
        times = (state_of s texts log).times;
        progress = progress_of s.progress;
      }

-- the settings pass, and then the other checks decide
past : (n m : ℕ) → cond (not (eqb n 0)) n m ≡ 0 → (n ≡ 0) × (m ≡ 0)
past n m = go (eqb n 0) refl
  where
    go : (b : Bool) → eqb n 0 ≡ b → cond (not b) n m ≡ 0 → (n ≡ 0) × (m ≡ 0)
    go true q e = (eqb-true n 0 q, e)
    go false q e = absurd (eqb-false n 0 q e)

abbrev rest : List Check → List Check
rest [] = []
rest (c ∷ cs) = cs

offer_passed : (s : State.Sender) (t : ℕ) (x : List ℕ) → number_by (offer_checks s t x) ≡ 0
    → (length s.waiting + length x ≤ room_size) × (offer_of s t x ≡ record { number = 0; sender = sender_with s t x })
offer_passed s t x e =
    let p = past (settings_number s.settings) (number_by (rest (offer_checks s t x))) e in
    let h : NoneApplies (rest (offer_checks s t x)) = none_applies (rest (offer_checks s t x)) (omega arith, (omega arith, (omega arith, (omega arith, tt)))) p.1 in
    let room : length s.waiting + length x ≤ room_size = ltb-false room_size (length s.waiting + length x) h.1.1.1.0 in
    (room, offer_joined s t x 0 (sym p.0) refl (ltb-false t s.clock h.0) (eqb-false (length x) 0 h.1.0) (not-false (is_text x) h.1.1.0) room)

module _ (s : Sender) (texts : List ℕ) (t : ℕ) (x : List ℕ) (few : 1 + length s.kept.lens ≤ slots) where
  module _ (log : List ℕ) where
    abbrev state : State.Sender
    state = state_of s texts log

    -- no check looks at more of the sender
    first : (n : ℕ) → n ≡ (offer_of (sender_where s.settings s.clock state.waiting) t x).number → number_by (offer_checks state t x) ≡ n
    unfolding offer_of
    first n e =
        let asked = sender_where s.settings s.clock state.waiting in
        sym (e ∙ number_first (λ (r : CallResult). r.number) (offer_refused asked) (offer_checks asked t x) (record { number = 0; sender = sender_with asked t x }) (λ n. refl) refl)

    refused_is : (n : ℕ) → 1 ≤ n → number_by (offer_checks state t x) ≡ n → offer_of state t x ≡ offer_refused state n
    unfolding offer_of
    refused_is n k e = refused_by_lem (offer_refused state) (offer_checks state t x) (record { number = 0; sender = sender_with state t x }) n k e

  abbrev JudgesSo : Result ℕ Refusal → List ℕ → Type 0
  JudgesSo r texts' = Judges s.settings s.clock s.waiting.room s.waiting.len t x texts r texts'

  pub offers_by : (r : Result ℕ Refusal) (texts' : List ℕ) → JudgesSo r texts' → Offers s texts t x (outcome_of r) (record_in r s t (length x)) texts'
  offers_by (Ok k) texts' j =
      let waits : ℕ → Sender = record_with s t (length x) in
      record {
        result = λ log.
            let p = offer_passed (state log) t x (first log 0 j.number) in
            let fits : min s.waiting.len room_size + length x ≤ room_size = omega (arith, p.0, waiting_length texts j.whole s.waiting.room s.waiting.len) in
            (λ i. record { number = 0; sender = state_of (waits (j.counted i)) (j.bytes i) log })
            ∙ ap (λ (a : State.Sender). record { number = 0; sender = a }) (joined_is s texts x j.whole fits t log few) ∙ sym p.1;
        fields = ap waits j.counted;
        bytes = j.bytes;
      }
  offers_by (Err q) texts' j =
      record {
        result = λ log.
            ap (λ (l : List ℕ). record { number = number q; sender = state_of s l log }) j.bytes
            ∙ sym (refused_is log (number q) (number_positive q) (first log (number q) j.number));
        fields = refl;
        bytes = j.bytes;
      }
