use Rattle.std.proofs.Common.{◌≡◌, ◌+◌, ◌≤◌, length, drop}
use Rattle.journal.proofs.HowFar.{to_give}
use Rattle.transcript.proofs.Output.pour.Given as goal

abbrev pub invariant-loop : goal.invariant-loop
invariant-loop l = (l.used ≤ length l.input) × (l.transcript.left + l.used ≡ l.initial.transcript.left)

abbrev pub decreases-loop : goal.decreases-loop
decreases-loop l = to_give l.transcript l.self.packet (drop l.used l.input)
