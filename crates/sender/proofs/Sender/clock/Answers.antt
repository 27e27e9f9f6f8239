use mathlib.Core.Path.{◌∙◌, ap, sym}
use Rattle.std.specs.Prelude.{Ok}
use Rattle.std.proofs.lemmas.Result.{err_from_is_err_and}
use Rattle.settings.specs.declared.Due.{Due}
use Rattle.settings.specs.Judging.{judged}
use Rattle.sender.proofs.ClockAnswered.{early_is, refused_is}
use Rattle.sender.proofs.Sender.clock.Goals as goal

pub returns-in_err-judge : goal.returns-in_err-judge
returns-in_err-judge c =
    let a = c.args in
    let p = err_from_is_err_and c.from_residual.result c.from_residual.ensures.1 in
    rw (p.1, p.2) (refused_is a.self.now a.texts.now a.log.now a.clock a.packet.now _ c.in_err-judge.ensures)

pub returns-in-Early : goal.returns-in-Early
returns-in-Early c =
    let a = c.args in
    rw c.at.ensures (early_is a.self.now a.texts.now a.log.now a.clock a.packet.now (ap (λ (d : Due). judged (Ok d)) (sym c.in-Early.is) ∙ c.in_ok-judge.ensures))
