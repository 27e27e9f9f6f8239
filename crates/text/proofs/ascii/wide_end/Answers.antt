use Prim.Native.Nat.{◌/◌}
use native.Mathlib.Omega.{arith}
use lib.ListN.{length}
use Rattle.base.proofs.EveryLaws.{every_on}
use Rattle.text_spec.proofs.Ascii.{Ascii}
use Rattle.text.proofs.Chunks.{chunk_at}
use Rattle.text.proofs.ascii.wide_end.Goals as goal

pub loop-wide-preserved : goal.loop-wide-preserved
loop-wide-preserved c =
    let l = c.loop-wide in
    let s = c.args.bytes.now in
    let wide = c.are_ascii.ensures c.if-not-are_ascii.false in
    let wide = rw (c.as_chunks.ensures.front, chunk_at 32 (length s / 32) l.wide-index s (omega arith), ← l.invariant.0) at wide in
    (omega arith, every_on Ascii l.at 32 s l.invariant.1 wide)
