-- The packets of a call, as they are read, and what the receiver's step and its parts make of them.
use Rattle.std.proofs.Common.{◌≡◌, ℕ, Bool, true, false, cond, List, eqb, refl, ap, sym, ◌∙◌, arith, eq-eqb}
use Rattle.std.specs.Prelude.{Ok, Err}
use borrow.Author.Tests.{ne_eqb}
use Rattle.packet.specs.declared.Packet.{Packet}
use Rattle.packet.specs.declared.Refusal.{Refusal}
use Rattle.packet_spec.specs.Limits.{level}
use Rattle.packet_spec.specs.Reading.{Content, Read, holds, refused}
use Rattle.packet.specs.Refusal.{number}
use Rattle.packet.specs.Places.{ReadResult, numbered, answer, refused_answer, read_of}
use Rattle.packet.proofs.Names.{number_positive}
use Rattle.packet_spec.proofs.BlocksLie.{lies, few}
use Rattle.packet_spec.proofs.HeadersTell.{headed}
use Rattle.reader.proofs.AnswerToReading.{was_refused_lem}
use Rattle.delivery.specs.Course.{Course, forward, late, jump, break, distance, course_at}
use Rattle.receiver_spec.specs.State.{Receiver, kept_by, source_expected, read_by}
use Rattle.receiver_spec.specs.Step.{step_read, step_by, first_step}
use Rattle.receiver_spec.specs.Answers.{Step, refuses}
use Rattle.receiver.specs.Internal.Read.{read_step, read_given}
use Rattle.receiver.proofs.Steps.{was_read, read_step_lem, read_given_lem}
use Rattle.holding_spec.specs.State.{is_numbered}
use Rattle.holding.specs.Internal.Arriving.{ReadAs}
use Rattle.holding.specs.Internal.Calling.{read_back}
use Rattle.holding_spec.proofs.PlainStep.{goes_by}

module _ (r : Receiver) (p : List ℕ) (c : Content) (k : Packet) (is : ReadAs r p c k) where
  pub accept_is : read_step r p k ≡ step_read r p (holds c)
  accept_is =
      ap (read_step r p) is.places
      ∙ read_step_lem r p c (lies level (source_expected r) r.t140 r.red p c is.read) (headed level (source_expected r) r.t140 r.red p c is.read) (few level (source_expected r) r.t140 r.red p c is.read)

  pub give_is : read_given r p k ≡ goes_by r p c
  give_is =
      ap (read_given r p) is.places
      ∙ read_given_lem r p c (lies level (source_expected r) r.t140 r.red p c is.read) (headed level (source_expected r) r.t140 r.red p c is.read) (few level (source_expected r) r.t140 r.red p c is.read)

  pub same_number : k.sequence ≡ c.sequence
  same_number = ap (λ (q : Packet). q.sequence) is.places

  -- such a packet is accepted
  pub accept_never : (n : ℕ) → record { receiver = r; answer = refuses n } ≡ read_step r p k → ⊥
  accept_never n e = go r.has_source (course_at r.expected (kept_by r) c.sequence) (e ∙ accept_is)
    where
      go : (h : Bool) (v : Course) → record { receiver = r; answer = refuses n } ≡ cond h (step_by v r p c (distance c.sequence r.expected)) (first_step r p c) → ⊥
      go true forward e = let q = ap (λ (s : Step). s.answer) e in cc
      go true late e = let q = ap (λ (s : Step). s.answer) e in cc
      go true jump e = let q = ap (λ (s : Step). s.answer) e in cc
      go true break e = let q = ap (λ (s : Step). s.answer) e in cc
      go false v e = let q = ap (λ (s : Step). s.answer) e in cc

  pub give_never : (n : ℕ) → record { receiver = r; answer = refuses n } ≡ read_given r p k → ⊥
  give_never n e = let q = ap (λ (s : Step). s.answer) (e ∙ give_is) in cc

-- a packet by the reader's answer
module _ (r : Receiver) (p : List ℕ) where
  pub refused_is : (k : Refusal) → numbered (Err k) ≡ read_of (source_expected r) r.t140 r.red p → read_by r p ≡ refused (number k)
  unfolding read_of
  refused_is k e = was_refused_lem p k (read_by r p) e

  pub accepted_is : (x : Packet) → numbered (Ok x) ≡ read_of (source_expected r) r.t140 r.red p → (c : Content) × ReadAs r p c x
  accepted_is x e = let h = was_read r p x e in (h.0, record { read = h.1; places = h.2 })

  -- as the packet that is held, by its number
  module _ (n : ℕ) where
    pub back_refused : (k : Refusal) → numbered (Err k) ≡ read_of (source_expected r) r.t140 r.red p → refused_answer 27 ≡ read_back r n p
    back_refused k e = sym (ap (λ (y : Read). cond (is_numbered n y) (answer p y) (refused_answer 27)) (refused_is k e))

    module _ (x : Packet) (e : numbered (Ok x) ≡ read_of (source_expected r) r.t140 r.red p) where
      pub back_other : (x.sequence ≡ n → ⊥) → refused_answer 27 ≡ read_back r n p
      back_other d =
          let h = accepted_is x e in
          let s : h.0.sequence ≡ n → ⊥ = λ q. d (same_number r p h.0 x h.1 ∙ q) in
          sym (ap (λ (y : Read). cond (is_numbered n y) (answer p y) (refused_answer 27)) h.1.read ∙ rw (ne_eqb h.0.sequence n s))

      pub back_same : x.sequence ≡ n → numbered (Ok x) ≡ read_back r n p
      unfolding read_of
      back_same d =
          let h = accepted_is x e in
          let s : is_numbered n (read_by r p) ≡ true = ap (is_numbered n) h.1.read ∙ eq-eqb h.0.sequence n (sym (same_number r p h.0 x h.1) ∙ d) in
          e ∙ rw s

-- the packet that is held, by that answer
module _ (r : Receiver) (n : ℕ) (lent : List ℕ) where
  pub lent_refused : (k : Refusal) → numbered (Err k) ≡ read_back r n lent → (is_numbered n (read_by r lent) ≡ false) × (number k ≡ 27)
  lent_refused k e = go (read_by r lent) e
    where
      is : (b : Bool) (y : ReadResult) → y.number ≡ 0 → numbered (Err k) ≡ cond b y (refused_answer 27) → (b ≡ false) × (number k ≡ 27)
      is true y z q =
          let w : number k ≡ 0 = ap (λ (a : ReadResult). a.number) q ∙ z in
          absurd (omega (arith, number_positive k))
      is false y z q = (refl, ap (λ (a : ReadResult). a.number) q)

      go : (y : Read) → numbered (Err k) ≡ cond (is_numbered n y) (answer lent y) (refused_answer 27) → (is_numbered n y ≡ false) × (number k ≡ 27)
      go (refused j) q = (refl, ap (λ (a : ReadResult). a.number) q)
      go (holds c) q = is (eqb c.sequence n) (answer lent (holds c)) refl q

  pub lent_accepted : (x : Packet) → numbered (Ok x) ≡ read_back r n lent → (c : Content) × (is_numbered n (read_by r lent) ≡ true) × ReadAs r lent c x
  lent_accepted x e = go (read_by r lent) refl e
    where
      none : numbered (Ok x) ≡ refused_answer 27 → ⊥
      none q = let w : ◌≡◌ {A = ℕ} 0 27 = ap (λ (a : ReadResult). a.number) q in omega arith

      is : (c : Content) → read_by r lent ≡ holds c → (b : Bool) → eqb c.sequence n ≡ b → numbered (Ok x) ≡ cond b (answer lent (holds c)) (refused_answer 27)
          → (c : Content) × (is_numbered n (read_by r lent) ≡ true) × ReadAs r lent c x
      is c y true z q = (c, ap (is_numbered n) y ∙ z, record { read = y; places = ap (λ (a : ReadResult). a.packet) q })
      is c y false z q = absurd (none q)

      go : (y : Read) → read_by r lent ≡ y → numbered (Ok x) ≡ cond (is_numbered n y) (answer lent y) (refused_answer 27)
          → (c : Content) × (is_numbered n (read_by r lent) ≡ true) × ReadAs r lent c x
      go (refused j) y q = absurd (none q)
      go (holds c) y q = is c y (eqb c.sequence n) refl q
