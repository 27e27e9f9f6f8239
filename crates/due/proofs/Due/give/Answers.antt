use mathlib.Core.Path.{refl}
use Rattle.due.proofs.Giving.{gave}
use Rattle.due.proofs.Due.give.Goals as goal

pub returns-clause-due_value : goal.returns-clause-due_value
returns-clause-due_value c =
    let a = c.args in
    let t = c.part-text in
    let d = c.put_due-put in
    let w = gave a.self a.packet.now t.result.now a.space.now t.ensures d.result.marks d.result.text d.ensures.marks_value.0 d.ensures.marks_value.1 _ _ _ refl refl d.ensures.space_after in
    (w.0, w.1)
