use Prim.Native.Nat.{◌<◌, ◌≤◌, ◌-◌}
use mathlib.Core.Path.{◌≡◌}
use lib.ListN.{length, drop}
use Rattle.text.specs.Owed.{owes}
use Rattle.text_spec.specs.Utf8.{text_from, text_of}
use Rattle.text.proofs.text_of.Given as goal

abbrev pub invariant-loop-at : goal.invariant-loop-at
invariant-loop-at l = (l.at ≤ length l.bytes) × (l.characters ≤ l.at) × (l.run < 8) × (text_of l.bytes ≡ text_from (owes l.owed) l.characters l.at (drop l.at l.bytes))

abbrev pub decreases-loop-at : goal.decreases-loop-at
decreases-loop-at l = length l.bytes - l.at
