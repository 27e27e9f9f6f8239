use Prim.Native.Nat.{◌-◌}
use mathlib.Core.Path.{◌≡◌, ap}
use mathlib.Core.Bool.{true}
use mathlib.Core.List.{List}
use mathlib.Core.Option.{some}
use native.Mathlib.Omega.{arith}
use Rattle.std.proofs.lemmas.Grind.{common_steps}
use Rattle.text_spec.specs.Utf8.{Range, ◌to◌, within}
use Rattle.text.proofs.Owes.{owes_some, tails_only}
use Rattle.text.proofs.Owed.step.Goals as goal

pub returns : goal.returns
returns c =
    let o = c.args.self in
    let w : within (o.low to o.high) c.args.byte ≡ true = grind (arith, common_steps) in
    rw (c.new-2.ensures, owes_some o c.if-self-eq0.false, w) (ap (λ (l : List Range). some l) (tails_only (o.tails - 1)))
