use Prim.Native.Nat.{min}
use mathlib.Core.Path.{◌≡◌}
use Rattle.sender_spec.specs.Rate.{allowed}
use Rattle.rate.specs.Circle.{times_back}
use Rattle.rate.proofs.Pace.allowed.Given as goal

abbrev pub invariant-loop-fewer : goal.invariant-loop-fewer
invariant-loop-fewer l =
    let times = times_back l.slots l.log l.at (min l.self.used l.slots) in
    allowed l.slots times l.clock l.fewer ≡ allowed l.slots times l.clock l.most
