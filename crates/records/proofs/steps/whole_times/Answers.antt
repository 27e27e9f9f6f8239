use mathlib.Core.Path.{◌≡◌}
use native.Mathlib.Omega.{arith}
use lib.ListN.{get_or}
use borrow.Author.Rules.{rules}
use Rattle.records.proofs.WholeTimes.{one_passed, left_after}
use Rattle.records.proofs.steps.whole_times.Goals as goal

pub loop-record-preserved : goal.loop-record-preserved
loop-record-preserved c =
    let s = c.args.input.now in
    let l = c.loop-record in
    let f = c.in-Some in
    let e = f.ensures.cases in
    let kind : get_or f.record.now 0 0 ≡ 4 = search rules in
    record {
      passed = one_passed s l.rest.now l.invariant.passed l.invariant.rest l.invariant.within f.record.now f.after.now e.0 e.1 e.2 kind;
      rest = left_after s l.rest.now l.invariant.passed l.invariant.rest l.invariant.within f.record.now f.after.now e.0 e.1 e.2 kind;
      within = omega (arith, l.invariant.within, e.2);
    }
