use mathlib.Core.Path.{refl}
use Rattle.parts.proofs.Sound.{goes}
use Rattle.acting.proofs.ByPart.{packet, opened, ended, broken, goes_on}
use Rattle.acting.proofs.act.Goals as goal

pub returns-in-Packet : goal.returns-in-Packet
returns-in-Packet c =
    let a = c.args in
    packet a.part a.size a.receiver a.counts a.packet.now _ _ c.in-Packet.is c.part.ensures c.step.ensures

pub returns-in-Opened : goal.returns-in-Opened
returns-in-Opened c =
    let a = c.args in
    opened a.part a.size a.receiver a.counts a.packet.now _ _ _ c.in-Opened.is c.«open».ensures

pub returns-in-Ended : goal.returns-in-Ended
returns-in-Ended c =
    let a = c.args in
    ended a.part a.size a.receiver a.counts a.packet.now _ _ c.in-Ended.is c.finish.ensures

pub returns-in-Broken : goal.returns-in-Broken
returns-in-Broken c =
    let a = c.args in
    broken a.part a.size a.receiver a.counts a.packet.now _ _ c.in-Broken.is c.break_off.ensures

pub returns-in_default : goal.returns-in_default
returns-in_default c =
    let a = c.args in
    goes_on a.part a.size a.receiver a.counts a.packet.now _ (goes a.part c.in_default.not-Opened c.in_default.not-Packet c.in_default.not-Ended c.in_default.not-Broken) record { receiver = refl; counts = refl; due = c.none.ensures; lent = refl }
