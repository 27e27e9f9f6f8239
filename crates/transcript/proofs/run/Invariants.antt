use Rattle.transcript.proofs.run.Given as goal

abbrev pub decreases-loop-input : goal.decreases-loop-input
decreases-loop-input l = l.transcript.left
