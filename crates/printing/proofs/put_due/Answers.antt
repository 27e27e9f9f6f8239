use Rattle.printing.proofs.Written.{due_put}
use Rattle.printing.proofs.put_due.Goals as goal

pub returns-else-written-marks-clause-space_after : goal.returns-else-written-marks-clause-space_after
returns-else-written-marks-clause-space_after c =
    let a = c.args in
    let m = c.write_marks-written in
    let k = c.put-text in
    (due_put a.marks a.text.now a.space.now m.new.space m.result m.ensures.0 m.ensures.1 c.if-written-marks.false
    k.new.space k.result k.ensures.0 k.ensures.1).1
