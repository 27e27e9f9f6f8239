use mir.Syntax.{w64}
use Rattle.std.proofs.Common.{◌∙◌, arith}
use Rattle.std.proofs.Math.Facts.{to_z-of_z}
use Rattle.stewpigeon.proofs.sending.stewpigeon_sender_clock_in.Goals as goal
use Rattle.sender_boundary.proofs.Codes.{code_exact}

pub returns : goal.returns
returns c =
    let a = c.args in
    let k = c.clock-answer in
    record {
      answer = k.result;
      code = to_z-of_z {w = w64} (record { sfits = c.code_of.type_inv }) ∙ c.code_of.ensures
          ∙ code_exact a.sender.now a.texts.now a.log.now a.clock a.packet.now k.result k.new.self k.new.texts k.new.log k.new.packet k.ensures (omega (arith, c.well_formed.1.1.1.1.0));
      clocks = k.ensures;
    }
