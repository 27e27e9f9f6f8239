use Prim.Native.Nat.{◌<◌}
use mathlib.Core.Path.{◌≡◌}
use native.Mathlib.Omega.{arith}
use borrow.Author.Rules.{rules}
use Rattle.std.proofs.Common.{bit_or}
use Rattle.std.proofs.lemmas.Grind.{common_steps}
use Rattle.std.specs.List.{fold}
use Rattle.text.proofs.Joined.{joined_ascii}
use Rattle.text.proofs.ascii.are_ascii.Goals as goal

pub returns : goal.returns
returns c h =
    let s = c.args.bytes.now in
    let e : c.fold-joined.result ≡ fold bit_or 0 s = search rules in
    let k : c.fold-joined.result < 0x80 = grind (arith, common_steps) in
    joined_ascii s 0 (omega arith)
