use Rattle.receiver.specs.View.{receiver_of}
use Rattle.holding.proofs.Readings.{back_refused, back_other, back_same}
use Rattle.holding.proofs.calling.read_back.Goals as goal

pub returns-in-Err : goal.returns-in-Err
returns-in-Err c = back_refused (receiver_of c.args.receiver) c.args.lent.now c.args.held _ c.in-Err.ensures

pub returns-in-Ok : goal.returns-in-Ok
returns-in-Ok c = back_other (receiver_of c.args.receiver) c.args.lent.now c.args.held _ c.in-Ok.ensures c.if-packet-held.true

pub returns-in-Ok-2 : goal.returns-in-Ok-2
returns-in-Ok-2 c = back_same (receiver_of c.args.receiver) c.args.lent.now c.args.held _ c.in-Ok.ensures c.if-packet-held.false
