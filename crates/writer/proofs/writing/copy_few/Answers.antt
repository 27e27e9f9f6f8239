use mathlib.Core.Path.{◌∙◌, ap}
use mathlib.Core.List.{List}
use Prim.Native.Nat.{ℕ}
use native.Mathlib.Omega.{arith}
use native.Mathlib.Numerals.{add-one}
use lib.ListN.{get_or, set}
use Rattle.base.proofs.Replaced.{replaced_more}
use Rattle.writer.proofs.writing.copy_few.Goals as goal

pub loop-i-preserved : goal.loop-i-preserved
loop-i-preserved c =
    let l = c.loop-i in
    rw add-one (ap (λ (x : List ℕ). set x l.i (get_or c.args.src.now l.i 0)) l.invariant ∙ replaced_more c.args.src.now c.args.dst.now l.i (omega arith) (omega arith))
