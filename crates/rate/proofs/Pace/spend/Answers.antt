use Prim.Native.Nat.{ℕ, suc, ◌+◌, ◌-◌, ◌<◌}
use mathlib.Core.Path.{◌≡◌, ◌∙◌, ap, sym}
use native.Mathlib.Omega.{arith}
use lib.ListN.{set}
use Rattle.rate.specs.Circle.{around, spent_from}
use Rattle.rate.proofs.Circle.{after_place, stays_inside, around_inside, around_stays, spent_on}
use Rattle.rate.proofs.Spent.{around_again}
use Rattle.rate.proofs.Pace.spend.Goals as goal

pub loop-preserved : goal.loop-preserved
loop-preserved c =
    let n = c.slots_of-slots.result in
    let l = c.loop in
    let next = c.after-next in
    let on : next.result ≡ around n (c.loop.next + 1) = next.ensures ∙ sym (after_place n c.loop.next (stays_inside n c.loop.next (omega arith) c.loop.invariant.place)) in
    let k = c.min-more.result - l.counter in
    let inside : l.next < n = stays_inside n l.next (omega arith) l.invariant.place in
    let e : suc (k - 1) ≡ k = omega arith in
    let f : c.min-more.result - (l.counter + 1) ≡ k - 1 = omega arith in
    record {
      place = around_stays n next.result (rw on (around_inside n (l.next + 1) (omega arith)));
      next = (λ i. around n (on i + f i)) ∙ around_again n l.next inside (k - 1) (omega arith) ∙ ap (λ (j : ℕ). around n (l.next + j)) e ∙ l.invariant.next;
      log = (λ i. spent_from n (set l.log l.next c.args.clock) (on i) c.args.clock (f i)) ∙ spent_on n l.log l.next c.args.clock k (omega arith) ∙ l.invariant.log;
    }
