-- A call, by its first checks and by whether a packet is held.
use Rattle.std.proofs.Common.{◌≡◌, ◌∙◌, refl, ap, ℕ, ◌≤◌, Bool, true, false, cond, not, ◌&&◌, List, ltb, arith}
use Rattle.std.specs.Prelude.{Option, Some, None}
use Rattle.std.proofs.Math.Option as definition
use Rattle.std.proofs.Math.Option.{none, some}
use Rattle.receiver.specs.View.{receiver_of}
use Rattle.holding.specs.declared.Held.{Held}
use Rattle.holding.specs.declared.HoldingReceiver as code
use Rattle.holding.specs.View.{holding_of}
use Rattle.packet_spec.specs.Header.{types_bad}
use Rattle.receiver_spec.specs.State.{read_by}
use Rattle.holding_spec.specs.State.{HoldingReceiver, holds_none, holds_one, is_numbered}
use Rattle.holding_spec.specs.Answers.{HoldingStep}
use Rattle.holding_spec.specs.Rule.{waited}
use Rattle.holding_spec.specs.Step.{refusing, called, holding_step}
use Rattle.holding.specs.Internal.Calling.{first_number, step_alone, if_back, step_behind, wait_behind}

-- the receiver as the code has it, by the packet that it holds
module _ (x : code.HoldingReceiver) where
  abbrev with_held : Option Held → code.HoldingReceiver
  with_held o = record { receiver = x.receiver; held = o; clock = x.clock }

  pub one_held : (h : Held) → x.held ≡ Some h → holding_of x ≡ holds_one (receiver_of x.receiver) h.number h.arrival x.clock
  one_held h e = ap (λ (o : Option Held). holding_of (with_held o)) e

  pub none_held : x.held ≡ None → holding_of x ≡ holds_none (receiver_of x.receiver) x.clock
  none_held e = ap (λ (o : Option Held). holding_of (with_held o)) e

module _ (s : HoldingReceiver) (t : ℕ) (lent : List ℕ) where
  -- 3 or 5
  pub first_refused : (p : definition.Option (List ℕ)) (k : ℕ) → 1 ≤ k → k ≡ first_number s t → refusing s k ≡ holding_step s t lent p
  unfolding holding_step
  first_refused p k h e = go (types_bad s.receiver.t140 s.receiver.red) (ltb t s.clock) e
    where
      go : (a b : Bool) → k ≡ cond a 3 (cond b 5 0)
          → refusing s k ≡ cond a (refusing s 3) (cond b (refusing s 5) (cond (s.has_held && not (is_numbered s.held (read_by s.receiver lent))) (refusing s 27) (called s t lent p)))
      go true b e = ap (refusing s) e
      go false true e = ap (refusing s) e
      go false false e = absurd (omega arith)

  -- neither
  module _ (e : first_number s t ≡ 0) where
    past : (p : definition.Option (List ℕ))
        → holding_step s t lent p ≡ cond (s.has_held && not (is_numbered s.held (read_by s.receiver lent))) (refusing s 27) (called s t lent p)
    unfolding holding_step
    past p = go (types_bad s.receiver.t140 s.receiver.red) (ltb t s.clock) e
      where
        go : (a b : Bool) → cond {A = ℕ} a 3 (cond b 5 0) ≡ 0
            → cond a (refusing s 3) (cond b (refusing s 5) (cond (s.has_held && not (is_numbered s.held (read_by s.receiver lent))) (refusing s 27) (called s t lent p)))
            ≡ cond (s.has_held && not (is_numbered s.held (read_by s.receiver lent))) (refusing s 27) (called s t lent p)
        go true b e = absurd (omega arith)
        go false true e = absurd (omega arith)
        go false false e = refl

    pub alone_step : (p : List ℕ) → s.has_held ≡ false → holding_step s t lent (some p) ≡ step_alone s t p
    alone_step p h = past (some p) ∙ rw h

    pub alone_wait : s.has_held ≡ false → holding_step s t lent none ≡ waited s.receiver t none
    alone_wait h = past none ∙ rw h

    pub behind_step : (p : List ℕ) → s.has_held ≡ true → holding_step s t lent (some p) ≡ step_behind s t lent p
    behind_step p h = past (some p) ∙ rw h

    pub behind_wait : s.has_held ≡ true → holding_step s t lent none ≡ wait_behind s t lent
    behind_wait h = past none ∙ rw h

  -- the packet lent back is not the one held
  pub not_back : (x : HoldingStep) (k : ℕ) → is_numbered s.held (read_by s.receiver lent) ≡ false → k ≡ 27 → refusing s k ≡ if_back s lent x
  not_back x k e n = ap (refusing s) n ∙ rw e

  pub is_back : (x : HoldingStep) → is_numbered s.held (read_by s.receiver lent) ≡ true → x ≡ if_back s lent x
  is_back x e = rw e
