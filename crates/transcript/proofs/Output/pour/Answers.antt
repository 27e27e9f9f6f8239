use native.Mathlib.Omega.{arith}
use Rattle.transcript.proofs.Turns.{filled, turn_uses, turn_less}
use Rattle.transcript.proofs.Output.pour.Goals as goal

pub overflow_add-used : goal.overflow_add-used
overflow_add-used c =
    let l = c.loop in
    let f = c.fill-filled in
    omega (arith, turn_uses l.transcript l.self.packet c.args.input.now l.used l.self.space f.result.transcript f.new.packet f.new.space f.result.used f.result.count f.ensures l.invariant.0, c.well_formed.1.0)

pub shared_ref_as_front-write_all : goal.shared_ref_as_front-write_all
shared_ref_as_front-write_all c =
    let l = c.loop in
    let f = c.fill-filled in
    omega (arith, (filled l.transcript l.self.packet c.args.input.now l.used l.self.space f.result.transcript f.new.packet f.new.space f.result.used f.result.count f.ensures).fits, f.auto.space)

pub returns-then-filled-eq0 : goal.returns-then-filled-eq0
returns-then-filled-eq0 c =
    let l = c.loop in
    let f = c.fill-filled in
    omega (arith, (filled l.transcript l.self.packet c.args.input.now l.used l.self.space f.result.transcript f.new.packet f.new.space f.result.used f.result.count f.ensures).left, l.invariant.1)

pub loop-smaller : goal.loop-smaller
loop-smaller c =
    let l = c.loop in
    let f = c.fill-filled in
    turn_less l.transcript l.self.packet c.args.input.now l.used l.self.space f.result.transcript f.new.packet f.new.space f.result.used f.result.count f.ensures
    (omega (arith, c.if-filled-eq0.false))

pub loop-preserved : goal.loop-preserved
loop-preserved c =
    let l = c.loop in
    let f = c.fill-filled in (
      turn_uses l.transcript l.self.packet c.args.input.now l.used l.self.space f.result.transcript f.new.packet f.new.space f.result.used f.result.count f.ensures l.invariant.0,
      omega (arith, (filled l.transcript l.self.packet c.args.input.now l.used l.self.space f.result.transcript f.new.packet f.new.space f.result.used f.result.count f.ensures).left, l.invariant.1),
    )
