use Prim.Native.Nat.{ℕ, suc, ◌+◌, ◌*◌, ◌<◌}
use mathlib.Core.Path.{◌≡◌, ◌∙◌, refl, ap, sym}
use mathlib.Core.List.{List}
use mathlib.Core.Bool.{true}
use native.Mathlib.Omega.{arith}
use native.Mathlib.Numerals.{add-one}
use lib.Dec.{leb}
use lib.ListN.{length, get_or, set, take, drop, length-take}
use borrow.Author.Rules.{rules}
use borrow.Author.Tests.{le-leb, lt-leb}
use Rattle.delivery.specs.Run.{oldest_age}
use Rattle.packet_spec.specs.Limits.{level}
use Rattle.carrying.specs.Internal.Young.{young, young_run}
use Rattle.carrying.proofs.YoungRun.{run_more, run_stop, run_end}
use Rattle.carrying.proofs.Tags.{tagged_more, tags_first}
use Rattle.carrying.proofs.TextTotal.{total_more}
use Rattle.carrying.proofs.Kept.run.Goals as goal
use Rattle.carrying.proofs.Kept.run.Goals.{else-loop-i-test, then-loop-i-test+then-i-most, then-loop-i-test+else-i-most+then-age-gt-OLDEST}

-- one more young block; `most` is found from what the invariant says of it
run_next : (t : ℕ) (ats : List ℕ) (most k : ℕ) → young_run t (take most ats) ≡ k + young_run t (drop k (take most ats)) → k < most → k < length ats
    → young t (get_or ats k 0) ≡ true → young_run t (take most ats) ≡ suc k + young_run t (drop (suc k) (take most ats))
run_next t ats most k so before here e = omega (arith, so, run_more t ats most k before here e)

pub loop-i-init : goal.loop-i-init
unfolding level
loop-i-init c = record {
  count = refl;
  most = omega arith;
  run = omega arith;
  text = refl;
  few = omega arith;
  tags = refl;
}

pub loop-i-preserved : goal.loop-i-preserved
unfolding level
loop-i-preserved c =
    let lens : length c.args.self.lens ≡ level = search rules in
    let ats : length c.args.self.ats ≡ level = search rules in
    let a = c.args in
    let k = a.self in
    let l = c.loop-i in
    let n = c.min-size in
    let age = c.saturating_sub-age in
    let young = ap (λ (m : ℕ). leb m oldest_age) age.ensures in
    record {
      count = omega arith;
      most = omega arith;
      run = rw add-one (run_next a.clock k.ats _ l.i l.invariant.run (omega arith) (omega (arith, ats)) (sym young ∙ le-leb age.result oldest_age c.if-age-gt-OLDEST.false));
      text = rw add-one (omega (arith, l.invariant.text, n.ensures, total_more k.lens l.i (omega (arith, lens))));
      few = omega (arith, n.ensures);
      tags =
          rw add-one (ap (λ (x : List ℕ). set x l.i ((16384 + age.result) * 256 + n.result)) l.invariant.tags
          ∙ tagged_more a.clock k.lens k.ats lens ats l.i (omega arith) ((16384 + age.result) * 256 + n.result) (λ i. (16384 + age.ensures i) * 256 + n.ensures i));
    }

pub returns : goal.returns
unfolding level
returns c =
    let a = c.args in
    let l = c.loop-i in
    let ats : length a.self.ats ≡ level = search rules in
    let count : l.i ≡ young_run a.clock (take a.most a.self.ats) =
    elim c.loop-i-test.branch [
      | else-loop-i-test w ↦ omega (arith, run_end a.clock a.self.ats a.most l.i (omega (arith, w.loop-i-test.false, length-take a.most a.self.ats)))
      | then-loop-i-test+then-i-most w ↦ omega (arith, run_end a.clock a.self.ats a.most l.i (omega (arith, w.if-i-most.true, length-take a.most a.self.ats)))
      | then-loop-i-test+else-i-most+then-age-gt-OLDEST w ↦
          let age = w.saturating_sub-age in
          omega (
            arith,
            run_stop a.clock a.self.ats a.most l.i (omega (arith, w.if-i-most.false)) (omega (arith, w.loop-i-test.true, ats))
                (sym (ap (λ (m : ℕ). leb m oldest_age) age.ensures) ∙ lt-leb age.result oldest_age (omega (arith, w.if-age-gt-OLDEST.true))),
          )
    ] in
    rw l.invariant.count (count, l.invariant.text, omega arith, omega arith, l.invariant.tags)

pub invariant_of-result : goal.invariant_of-result
unfolding level
invariant_of-result c =
    let a = c.args in
    let l = c.loop-i in
    let lens : length a.self.lens ≡ level = search rules in
    let ats : length a.self.ats ≡ level = search rules in
    record {
      few = omega arith;
      little = omega arith;
      first = rw (l.invariant.count, l.invariant.tags) (tags_first a.clock a.self.lens a.self.ats lens ats l.i (omega arith));
    }
