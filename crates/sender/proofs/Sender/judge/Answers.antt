use mathlib.Core.Path.{◌≡◌}
use native.Mathlib.Omega.{arith}
use lib.ListN.{length}
use borrow.Author.Rules.{rules}
use Rattle.packet_spec.specs.Limits.{level}
use Rattle.sender.proofs.Joined.{offers_by}
use Rattle.sender.proofs.Sender.judge.Goals as goal

pub returns : goal.returns
unfolding level
returns c =
    let a = c.args in
    let few : length a.self.kept.lens ≡ level = search rules in
    offers_by a.self a.texts.now a.clock a.text.now (omega (arith, few)) c.judge.result c.judge.new.texts c.judge.ensures
