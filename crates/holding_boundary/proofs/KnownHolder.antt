-- What a record lends beside a cleared flag is not looked at: a call without it tells the same.
use Rattle.std.proofs.Common.{◌≡◌, ◌∙◌, ℕ, Bool, true, false, cond, List, ltb, refl, ap, sym}
use Rattle.std.proofs.Math.Option.{Option, none, some}
use Rattle.packet_spec.specs.Header.{types_bad}
use Rattle.packet_spec.specs.Reading.{Read, holds, refused}
use Rattle.receiver.specs.declared.Advanced.{Advanced}
use Rattle.receiver_spec.specs.State as receiver
use Rattle.holding.specs.declared.HoldingReceiver as code
use Rattle.holding.specs.declared.HoldingAnswer as code_answer
use Rattle.holding.specs.View.{call_made}
use Rattle.holding_spec.specs.State.{HoldingReceiver}
use Rattle.holding_spec.specs.Answers.{refuses, HoldingStep, was_refused}
use Rattle.holding_spec.specs.Step.{refusing, arrives_read, called, holding_step}
use Rattle.holding_boundary.specs.Holding.{known}
use Rattle.holding_boundary.proofs.NumberTells.{accepted_number}

-- the same answer; and, where it is no refusal, the same receiver
record Same (x y : HoldingStep) : Type 0 where
  answer : x.answer ≡ y.answer
  accepted : was_refused y.answer ≡ false → x ≡ y

same : (x : HoldingStep) → Same x x
same x = record { answer = refl; accepted = λ e. refl }

both_refuse : (s s' : HoldingReceiver) (n : ℕ) → Same (refusing s n) (refusing s' n)
both_refuse s s' n = record { answer = refl; accepted = λ e. cc }

module _ (t : ℕ) (lent : List ℕ) (p : Option (List ℕ)) where
  module _ (r : receiver.Receiver) (n a clock : ℕ) where
    abbrev flagged : Bool → HoldingReceiver
    flagged b = record { receiver = r; has_held = b; held = n; arrival = a; clock = clock }

    arrives_same : (q : List ℕ) (x : Read) → Same (arrives_read (flagged false) t q none x) (arrives_read (known (flagged false)) t q none x)
    arrives_same q (refused k) = both_refuse _ _ k
    arrives_same q (holds c) = same _

    called_same : (q : Option (List ℕ)) → Same (called (flagged false) t lent q) (called (known (flagged false)) t lent q)
    called_same none = same _
    called_same (some q) = arrives_same q _

    checked_same : (bad early : Bool)
        → Same (cond bad (refusing (flagged false) 3) (cond early (refusing (flagged false) 5) (called (flagged false) t lent p)))
        (cond bad (refusing (known (flagged false)) 3) (cond early (refusing (known (flagged false)) 5) (called (known (flagged false)) t lent p)))
    checked_same true early = both_refuse _ _ 3
    checked_same false true = both_refuse _ _ 5
    checked_same false false = called_same p

    by_flag : (b : Bool) → Same (holding_step (flagged b) t lent p) (holding_step (known (flagged b)) t lent p)
    unfolding holding_step
    by_flag true = same _
    by_flag false = checked_same (types_bad r.t140 r.red) (ltb t clock)

  known_step : (s : HoldingReceiver) → Same (holding_step s t lent p) (holding_step (known s) t lent p)
  known_step s = by_flag s.receiver s.held s.arrival s.clock s.has_held

  module _ (h s : HoldingReceiver) (e : h ≡ known s) where
    pub known_refused : (n : ℕ) → refusing h n ≡ holding_step h t lent p → (holding_step s t lent p).answer ≡ refuses n
    known_refused n q =
        (known_step s).answer ∙ ap (λ (x : HoldingReceiver). (holding_step x t lent p).answer) (sym e) ∙ ap (λ (x : HoldingStep). x.answer) (sym q)

    pub known_accepted : (a : Advanced code.HoldingReceiver code_answer.HoldingAnswer) → call_made a ≡ holding_step h t lent p → call_made a ≡ holding_step s t lent p
    known_accepted a q =
        let k = q ∙ ap (λ (x : HoldingReceiver). holding_step x t lent p) e in
        k ∙ sym ((known_step s).accepted (sym (ap (λ (x : HoldingStep). was_refused x.answer) k) ∙ (accepted_number a.answer).0))
