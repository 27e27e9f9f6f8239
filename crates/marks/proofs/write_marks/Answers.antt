use Prim.Native.Nat.{ℕ, ◌+◌, ◌*◌, ◌≤◌}
use mathlib.Core.Path.{◌≡◌, ◌∙◌, ap}
use mathlib.Core.List.{List}
use native.Mathlib.Omega.{arith}
use lib.ListN.{length, set, length-set}
use lib.Seq.{sets}
use Rattle.receiver_spec.specs.Marks.{marks, marks_written}
use Rattle.marks.proofs.MarkStores.{more, marks_over_lem}
use Rattle.marks.proofs.write_marks.Goals as goal

pub loop-k-preserved : goal.loop-k-preserved
loop-k-preserved c =
    let l = c.loop-k in
    let s = c.args.space.now in
    let i = 3 * l.k in
    (simp length-set l.invariant.0, ap (λ (x : List ℕ). set (set (set x i 0xEF) (i + 1) 0xBF) (i + 2) 0xBD) l.invariant.1 ∙ more s l.k)

pub returns : goal.returns
returns c =
    let l = c.loop-k in
    let a = c.args in
    let s = a.space.now in
    let w : c.min-written.result ≡ marks_written a.count s = c.min-written.ensures in
    let e : l.k ≡ marks_written a.count s = omega arith in
    let h : 3 * marks_written a.count s ≤ length s = omega arith in
    (w, l.invariant.1 ∙ ap (λ (n : ℕ). sets s 0 (marks n)) e ∙ marks_over_lem (marks_written a.count s) s h)
