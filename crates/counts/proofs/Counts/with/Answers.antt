use Rattle.std.proofs.Common.{rules}
use Rattle.counts.proofs.Fits.{counting}
use Rattle.counts.proofs.Counts.with.Goals as goal

pub returns-in-Ok-Late-clause-counting : goal.returns-in-Ok-Late-clause-counting
returns-in-Ok-Late-clause-counting c = counting c.args.self _ _ (search rules) (search rules)

pub returns-in-Ok-Break-clause-counting : goal.returns-in-Ok-Break-clause-counting
returns-in-Ok-Break-clause-counting c = counting c.args.self _ _ (search rules) (search rules)

pub returns-in-Err-clause-counting : goal.returns-in-Err-clause-counting
returns-in-Err-clause-counting c = counting c.args.self _ _ (search rules) (search rules)
