-- The rule for packets that were read: what the code makes of them keeps its promises.
use Prim.Native.Nat.{ℕ, ◌-◌, ◌<◌, ◌≤◌}
use mathlib.Core.Path.{◌≡◌, ◌∙◌, refl, ap, ap₂, sym}
use mathlib.Core.Bool.{Bool, true, false, ◌&&◌}
use mathlib.Core.List.{List}
use mathlib.Core.Option.{some}
use lib.Dec.{ltb, leb}
use borrow.Author.Tests.{ltb-true, ltb-false, leb-true, leb-false}
use Rattle.base.proofs.Tests.{and_left, and_right}
use lib.IntN.{ℤ, pos}
use Rattle.packet.specs.declared.Packet.{Packet}
use Rattle.packet_spec.specs.Reading.{Content, holds}
use Rattle.delivery.specs.Course.{distance}
use Rattle.receiver_spec.specs.Distance.{signed}
use Rattle.receiver_spec.specs.State.{Receiver, keeping_none}
use Rattle.receiver_spec.specs.Answers.{Step, StepAnswer}
use Rattle.receiver_spec.specs.Step.{step_read}
use Rattle.receiver_spec.specs.Record.{loss_of}
use Rattle.receiver.specs.Internal.Read.{read_step, read_given}
use Rattle.holding_spec.specs.State.{HoldingReceiver, holds_none, holds_one}
use Rattle.holding_spec.specs.Answers.{neither, held, new, HoldingAnswer, waits, is_late, HoldingStep}
use Rattle.holding_spec.specs.Rule.{longest_hold, waited, arrives}
use Rattle.holding_spec.specs.Internal.PlainStep.{told, stayed, was_forward, was_break}
use Rattle.holding.specs.Internal.Arriving.{ReadAs, arrived, ArrivesAlone, ArrivesBehind, WaitsBehind}
use Rattle.holding_spec.proofs.PlainStep as by
use Rattle.holding_spec.proofs.PlainStep.{goes_by}
use Rattle.holding.proofs.Readings.{accept_is, give_is, same_number}

made : (h h' : HoldingReceiver) (a a' : HoldingAnswer) → h ≡ h' → a ≡ a' → ◌≡◌ {A = HoldingStep} (record { receiver = h; answer = a }) (record { receiver = h'; answer = a' })
made h h' a a' e f = λ i. record { receiver = e i; answer = f i }

-- s is what the step made of packet k; h and a are what the code returns
module _ (r : Receiver) (t : ℕ) (p : List ℕ) (k : Packet) (s : Step) (is_step : s ≡ read_step r p k) (h : HoldingReceiver) where
  module _ (c : Content) (read : ReadAs r p c k) where
    stepped : s ≡ step_read r p (holds c)
    stepped = is_step ∙ accept_is r p c k read

    tested : {A : Type 0} (f : StepAnswer → A) {b : A} → f s.answer ≡ b → f (step_read r p (holds c)).answer ≡ b
    tested f e = sym (ap (λ (x : Step). f x.answer) stepped) ∙ e

  pub waits_alone : (z : ℤ) → ltb 0 (loss_of s.answer) ≡ true → h ≡ holds_one (keeping_none r) k.sequence t t → z ≡ signed (distance k.sequence r.expected)
      → ArrivesAlone r t p k (record { receiver = h; answer = waits z new })
  waits_alone z w e f c read =
      let n : k.sequence ≡ c.sequence = same_number r p c k read in
      made _ _ _ _ (e ∙ ap (λ (m : ℕ). holds_one (keeping_none r) m t t) n) (ap (λ (y : ℤ). waits y new) (f ∙ ap (λ (m : ℕ). signed (distance m r.expected)) n))
      ∙ sym (by.alone_waits r t p c (tested c read (λ (x : StepAnswer). ltb 0 (loss_of x)) w))

  pub goes_alone : (a : HoldingAnswer) → ltb 0 (loss_of s.answer) ≡ false → h ≡ holds_none s.receiver t → a ≡ told new neither false s.answer
      → ArrivesAlone r t p k (record { receiver = h; answer = a })
  goes_alone a w e f c read =
      let q = stepped c read in
      made _ _ _ _ (e ∙ ap (λ (x : Step). holds_none x.receiver t) q) (f ∙ ap (λ (x : Step). told new neither false x.answer) q)
      ∙ sym (by.alone_goes r t p c (tested c read (λ (x : StepAnswer). ltb 0 (loss_of x)) w))

  -- packet l is held since b
  module _ (b : ℕ) (lent : List ℕ) (l : Packet) where
    pub copy_behind : (z : ℤ) → r.has_source ≡ true → k.sequence ≡ l.sequence → h ≡ holds_one r l.sequence b t → z ≡ signed (distance k.sequence r.expected)
        → ArrivesBehind r t b lent l p k (record { receiver = h; answer = is_late z held })
    copy_behind z src same e f y c lread read =
        let n : k.sequence ≡ c.sequence = same_number r p c k read in
        let m : l.sequence ≡ y.sequence = same_number r lent y l lread in
        made _ _ _ _ (e ∙ ap (λ (i : ℕ). holds_one r i b t) m) (ap (λ (i : ℤ). is_late i held) (f ∙ ap (λ (i : ℕ). signed (distance i r.expected)) n))
        ∙ sym (by.behind_copy r t p c b lent y src (sym n ∙ same ∙ m))

    -- the numbers differ
    other : (k.sequence ≡ l.sequence → ⊥) → (y c : Content) → ReadAs r lent y l → ReadAs r p c k → c.sequence ≡ y.sequence → ⊥
    other d y c lread read e = d (same_number r p c k read ∙ e ∙ sym (same_number r lent y l lread))

    -- g is what became of the packet that is held
    pub break_behind : (g : Step) (a : HoldingAnswer) → r.has_source ≡ true → (k.sequence ≡ l.sequence → ⊥) → was_break s.answer ≡ true → g ≡ read_given r lent l
        → h ≡ holds_none g.receiver t → a ≡ told held neither true g.answer → ArrivesBehind r t b lent l p k (record { receiver = h; answer = a })
    break_behind g a src d w is_given e f y c lread read =
        let q : g ≡ goes_by r lent y = is_given ∙ give_is r lent y l lread in
        made _ _ _ _ (e ∙ ap (λ (x : Step). holds_none x.receiver t) q) (f ∙ ap (λ (x : Step). told held neither true x.answer) q)
        ∙ sym (by.behind_break r t p c b lent y src (other d y c lread read) (tested c read was_break w))

    pub farther_behind : (g : Step) (a : HoldingAnswer) → r.has_source ≡ true → (k.sequence ≡ l.sequence → ⊥)
        → (was_forward s.answer && leb (distance l.sequence r.expected) (distance k.sequence r.expected)) ≡ true → g ≡ read_given (keeping_none r) lent l
        → h ≡ holds_one g.receiver k.sequence t t → a ≡ told held new false g.answer → ArrivesBehind r t b lent l p k (record { receiver = h; answer = a })
    farther_behind g a src d w is_given e f y c lread read =
        let n : k.sequence ≡ c.sequence = same_number r p c k read in
        let m : l.sequence ≡ y.sequence = same_number r lent y l lread in
        let near : distance l.sequence r.expected ≤ distance k.sequence r.expected =
        leb-true (distance l.sequence r.expected) (distance k.sequence r.expected) (and_right (was_forward s.answer) _ w) in
        let q : g ≡ goes_by (keeping_none r) lent y = is_given ∙ give_is (keeping_none r) lent y l (record { read = lread.read; places = lread.places }) in
        let nearer : distance y.sequence r.expected ≤ distance c.sequence r.expected = rw (n, m) at near in
        made _ _ _ _ (e ∙ ap₂ {C = HoldingReceiver} (λ (x : Step) (i : ℕ). holds_one x.receiver i t t) q n) (f ∙ ap (λ (x : Step). told held new false x.answer) q)
        ∙ sym (by.behind_farther r t p c b lent y src (other d y c lread read) (tested c read was_forward (and_left (was_forward s.answer) _ w)) nearer)

    -- the step is made, and the held one stays
    module _ (x : HoldingStep) (e : x ≡ stayed s.receiver s.answer l.sequence b t) where
      stays : (y c : Content) → ReadAs r lent y l → ReadAs r p c k
          → x ≡ stayed (step_read r p (holds c)).receiver (step_read r p (holds c)).answer y.sequence b t
      stays y c lread read =
          e ∙ ap₂ {C = HoldingStep} (λ (i : Step) (m : ℕ). stayed i.receiver i.answer m b t) (stepped c read) (same_number r lent y l lread)

      pub first_behind : r.has_source ≡ false → ArrivesBehind r t b lent l p k x
      first_behind src y c lread read = stays y c lread read ∙ sym (by.behind_first r t p c b lent y src)

      pub stays_behind : r.has_source ≡ true → (k.sequence ≡ l.sequence → ⊥) → was_break s.answer ≡ false
          → (was_forward s.answer && leb (distance l.sequence r.expected) (distance k.sequence r.expected)) ≡ false → ArrivesBehind r t b lent l p k x
      stays_behind src d w v y c lread read = go (was_forward s.answer) refl v
        where
          far : c.sequence ≡ y.sequence → ⊥
          far = other d y c lread read

          go : (v : Bool) → was_forward s.answer ≡ v → (v && leb (distance l.sequence r.expected) (distance k.sequence r.expected)) ≡ false
              → x ≡ arrives r t (arrived t p c) (some (arrived b lent y))
          go true u v =
              let n : k.sequence ≡ c.sequence = same_number r p c k read in
              let m : l.sequence ≡ y.sequence = same_number r lent y l lread in
              let near : distance k.sequence r.expected < distance l.sequence r.expected = leb-false (distance l.sequence r.expected) (distance k.sequence r.expected) v in
              let nearer : distance c.sequence r.expected < distance y.sequence r.expected = rw (n, m) at near in
              stays y c lread read ∙ sym (by.behind_nearer r t p c b lent y src far nearer (tested c read was_break w))
          go false u v = stays y c lread read ∙ sym (by.behind_other r t p c b lent y src far (tested c read was_forward u) (tested c read was_break w))

-- without a packet
module _ (r : Receiver) (t b : ℕ) (lent : List ℕ) (l : Packet) (g : Step) (is_given : g ≡ read_given r lent l) (h : HoldingReceiver) where
  module _ (y : Content) (read : ReadAs r lent y l) where
    given : g ≡ goes_by r lent y
    given = is_given ∙ give_is r lent y l read

  pub waits_behind : (ltb 0 (loss_of g.answer) && ltb (t - b) longest_hold) ≡ true → h ≡ holds_one r l.sequence b t
      → WaitsBehind r t b lent l (record { receiver = h; answer = waits (pos 0) held })
  waits_behind w e y read =
      ap (λ (x : HoldingReceiver). record { receiver = x; answer = waits (pos 0) held }) (e ∙ ap (λ (i : ℕ). holds_one r i b t) (same_number r lent y l read))
      ∙ sym (by.wait_stays r t b lent y (sym (ap (λ (x : Step). ltb 0 (loss_of x.answer)) (given y read)) ∙ and_left (ltb 0 (loss_of g.answer)) _ w) (ltb-true (t - b) longest_hold (and_right (ltb 0 (loss_of g.answer)) _ w)))

  pub goes_behind : (a : HoldingAnswer) → (ltb 0 (loss_of g.answer) && ltb (t - b) longest_hold) ≡ false → h ≡ holds_none g.receiver t
      → a ≡ told held neither false g.answer → WaitsBehind r t b lent l (record { receiver = h; answer = a })
  goes_behind a w e f y read = made _ _ _ _ (e ∙ ap (λ (x : Step). holds_none x.receiver t) q) (f ∙ ap (λ (x : Step). told held neither false x.answer) q) ∙ sym (go (ltb 0 (loss_of g.answer)) refl w)
    where
      q : g ≡ goes_by r lent y
      q = given y read

      go : (v : Bool) → ltb 0 (loss_of g.answer) ≡ v → (v && ltb (t - b) longest_hold) ≡ false
          → waited r t (some (arrived b lent y)) ≡ record { receiver = holds_none (goes_by r lent y).receiver t; answer = told held neither false (goes_by r lent y).answer }
      go true u w = by.wait_over r t b lent y (ltb-false (t - b) longest_hold w)
      go false u w = by.wait_closed r t b lent y (sym (ap (λ (x : Step). ltb 0 (loss_of x.answer)) q) ∙ u)
