use Rattle.counts.specs.Counts.{line_of}
use mathlib.Core.Path.{◌∙◌, ap}
use Rattle.due.specs.Due.{line_due}
use Rattle.acting.proofs.finish.Goals as goal

pub returns : goal.returns
unfolding line_of
returns c =
    let f = c.put_counts-to in
    record { due = c.line.ensures ∙ ap line_due f.ensures.0; lent = f.ensures.1 }
