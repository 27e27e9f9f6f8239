use Prim.Native.Nat.{◌+◌, ◌*◌, ◌≤◌}
use mathlib.Core.Path.{◌≡◌}
use lib.ListN.{take, drop}
use Rattle.sender_spec.specs.Limits.{room_size}
use Rattle.carrying.specs.Internal.Young.{young_run, text_total, tagged}
use Rattle.carrying.proofs.Kept.run.Given as goal

abbrev pub invariant-loop-i : goal.invariant-loop-i
invariant-loop-i l = record {
  count : l.count ≡ l.i;
  most : l.i ≤ l.most;
  run : young_run l.clock (take l.most l.fn.self.ats) ≡ l.i + young_run l.clock (drop l.i (take l.most l.fn.self.ats));
  text : l.text ≡ text_total (take l.i l.fn.self.lens);
  few : l.text ≤ room_size * l.i;
  tags : l.tags ≡ tagged l.clock l.fn.self.lens l.fn.self.ats l.i;
}
