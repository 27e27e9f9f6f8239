use Rattle.std.proofs.Common.{◌≡◌, ◌-◌}
use Rattle.blocks.specs.Places.{back, start_counted_back}
use Rattle.blocks.proofs.start_back.Given as goal

abbrev pub invariant-loop-done : goal.invariant-loop-done
invariant-loop-done l = start_counted_back l.bytes l.first l.primary l.back ≡ back l.bytes l.behind l.at (l.back - l.done)
