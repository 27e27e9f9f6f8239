use Prim.Native.Nat.{ℕ, min}
use mathlib.Core.Path.{◌≡◌, ◌∙◌, refl, ap, sym}
use mathlib.Core.List.{List}
use native.Mathlib.Omega.{arith}
use Rattle.sender_spec.specs.Rate.{allowed}
use Rattle.rate.specs.Circle.{slots_of, slot_at, times_back, times_in}
use Rattle.sender_spec.proofs.AllowedTurns.{allowed_fits, allowed_less, allowed_held}
use Rattle.rate.proofs.Fits.{allowed_empty}
use Rattle.rate.proofs.Pace.allowed.Goals as goal

-- in the terms of the contract: the slots of the rate, the times behind the next slot, and all characters
in_rate : (rate next used clock characters n most at : ℕ) (log : List ℕ)
    → n ≡ slots_of rate
    → most ≡ min characters n
    → at ≡ slot_at n next
    → allowed n (times_back n log at (min used n)) clock most ≡ allowed (slots_of rate) (times_in (slots_of rate) log next used) clock characters
in_rate rate next used clock characters n most at log e m s =
    (λ i. allowed n (times_back n log (s i) (min used n)) clock (m i))
    ∙ allowed_held n (times_in n log next used) clock characters
    ∙ ap (λ (i : ℕ). allowed i (times_in i log next used) clock characters) e

pub returns-then-self-slots : goal.returns-then-self-slots
returns-then-self-slots c =
    let a = c.args in
    let n = c.slots_of-slots.result in
    let most = c.min-most.result in
    sym (allowed_empty n a.log.now (slot_at n a.self.next) a.self.used a.clock most (omega (arith, c.min-most.ensures)) (omega arith))
    ∙ in_rate a.rate a.self.next a.self.used a.clock a.characters n most (slot_at n a.self.next) a.log.now c.slots_of-slots.ensures.0 c.min-most.ensures refl

pub returns-then-may_leave : goal.returns-then-may_leave
returns-then-may_leave c =
    let a = c.args in
    let n = c.slots_of-slots.result in
    let at = c.place-at.result in
    let k = c.loop-fewer.fewer in
    let times = times_back n a.log.now at (min a.self.used n) in
    sym (allowed_fits n times a.clock k (omega arith) (sym c.may_leave.ensures ∙ c.if-may_leave.true))
    ∙ c.loop-fewer.invariant
    ∙ in_rate a.rate a.self.next a.self.used a.clock a.characters n c.min-most.result at a.log.now c.slots_of-slots.ensures.0 c.min-most.ensures c.place-at.ensures

pub loop-fewer-preserved : goal.loop-fewer-preserved
loop-fewer-preserved c =
    let a = c.args in
    let n = c.slots_of-slots.result in
    let k = c.loop-fewer.fewer in
    let times = times_back n a.log.now c.place-at.result (min a.self.used n) in
    sym (allowed_less n times a.clock k (omega arith) (sym c.may_leave.ensures ∙ c.if-may_leave.false)) ∙ c.loop-fewer.invariant

pub returns : goal.returns
returns c =
    let a = c.args in
    let n = c.slots_of-slots.result in
    let at = c.place-at.result in
    let z : 0 ≡ c.loop-fewer.fewer = omega arith in
    ap (allowed n (times_back n a.log.now at (min a.self.used n)) a.clock) z
    ∙ c.loop-fewer.invariant
    ∙ in_rate a.rate a.self.next a.self.used a.clock a.characters n c.min-most.result at a.log.now c.slots_of-slots.ensures.0 c.min-most.ensures c.place-at.ensures
