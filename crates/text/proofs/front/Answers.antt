use Prim.Native.Nat.{◌+◌, ◌-◌}
use mathlib.Core.Path.{◌≡◌, ◌∙◌, ap, sym}
use native.Mathlib.Omega.{arith}
use lib.ListN.{length}
use Rattle.text.specs.Owed.{walked}
use Rattle.text_spec.proofs.FrontWalk.{front_stops_at}
use Rattle.text.proofs.Owes.{owes_tails}
use Rattle.text.proofs.FrontStep.{front_at_end, front_step}
use Rattle.text.proofs.front.Goals as goal

pub returns-then-at-bytes : goal.returns-then-at-bytes
returns-then-at-bytes c =
    let l = c.loop in
    omega (arith, ap length (front_at_end (c.args.most - l.counter) l.at c.args.bytes.now (omega arith)))

pub returns-in_default : goal.returns-in_default
returns-in_default c =
    let l = c.loop in
    let b = c.args.bytes.now in
    omega (arith, ap length (front_stops_at (c.args.most - l.counter) l.at b (omega arith) (omega arith) (sym c.lead.ensures ∙ ap walked c.in_default.is)))

pub loop-preserved : goal.loop-preserved
loop-preserved c =
    let l = c.loop in
    let b = c.args.bytes.now in
    let o = c.in-Some.owed in
    let n = c.args.most - (l.counter + 1) in
    let p : c.args.most - l.counter ≡ n + 1 = omega arith in
    let before = rw p at l.invariant.1 in
    let m = c.min-at.ensures in
    (omega arith, omega (arith, before, front_step n l.at b (omega arith) (sym c.lead.ensures ∙ ap walked c.in-Some.is) o.tails (owes_tails o) c.min-at.result (omega arith)))
