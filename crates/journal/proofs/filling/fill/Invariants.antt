use lib.ListN.{drop}
use Rattle.standing.proofs.Filling.{turns_left}
use Rattle.journal.specs.Ready.{standing_of}
use Rattle.journal.proofs.FillLeaves.{SoFar}
use Rattle.journal.proofs.filling.fill.Given as goal

abbrev pub invariant-loop-transcript : goal.invariant-loop-transcript
invariant-loop-transcript l = SoFar l.initial.transcript l.initial.packet l.input l.initial.space l.transcript l.packet l.space l.used l.count

abbrev pub decreases-loop-transcript : goal.decreases-loop-transcript
decreases-loop-transcript l = turns_left (standing_of l.transcript l.packet) (drop l.used l.input)
