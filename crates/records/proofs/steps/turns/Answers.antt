use borrow.Author.Rules.{rules}
use Rattle.records.proofs.TurnsInOrder.{at_end, turn_last}
use Rattle.records.proofs.steps.turns.Goals as goal

pub returns-then-t-eq0 : goal.returns-then-t-eq0
returns-then-t-eq0 c =
    let a = c.args in
    let l = c.loop-used in
    let t = c.turn-t in
    turn_last a.r a.packet.now a.input.now l.reader l.packet l.used l.invariant.0 t.result.reader
    t.new.packet t.result.used t.ensures (search rules) c.if-t-eq0.true

pub returns-after-loop-used : goal.returns-after-loop-used
returns-after-loop-used c =
    let a = c.args in
    let l = c.loop-used in
    at_end a.r a.packet.now a.input.now l.reader l.packet l.used l.invariant.0 (search rules) c.loop-used-test.false
