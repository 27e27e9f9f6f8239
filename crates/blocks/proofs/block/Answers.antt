use Prim.Native.Nat.{ℕ}
use mathlib.Core.Path.{◌∙◌, ap}
use borrow.Author.Tests.{lt-ltb, le-ltb}
use Rattle.packet_spec.specs.Limits.{level}
use Rattle.base.specs.Arrays.{part}
use Rattle.blocks.specs.Places.{start_of}
use Rattle.blocks.proofs.block.Goals as goal

pub returns-then-k-gt-LEVEL : goal.returns-then-k-gt-LEVEL
unfolding level
returns-then-k-gt-LEVEL c = rw (lt-ltb _ _ c.if-k-gt-LEVEL.true)

pub returns : goal.returns
unfolding level
returns c =
    let a = c.args in
    let p = a.bytes.now in
    rw (le-ltb _ _ c.if-k-gt-LEVEL.false)
    (c.part.ensures
    ∙ ap (λ (k : ℕ). part k c.start_of-to.result p) c.start_of-from.ensures
    ∙ ap (λ (k : ℕ). part (start_of p a.packet a.k) k p) c.start_of-to.ensures)
