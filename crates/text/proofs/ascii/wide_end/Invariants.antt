use Prim.Native.Nat.{◌*◌}
use mathlib.Core.Path.{◌≡◌}
use lib.ListN.{take}
use Rattle.base.specs.Every.{Every}
use Rattle.text_spec.proofs.Ascii.{Ascii}
use Rattle.text.proofs.ascii.wide_end.Given as goal

abbrev pub invariant-loop-wide : goal.invariant-loop-wide
invariant-loop-wide l = (l.at ≡ 32 * l.wide-index) × Every Ascii (take l.at l.bytes)
