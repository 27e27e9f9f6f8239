use Prim.Native.Nat.{◌+◌, ◌-◌, ◌≤◌}
use mathlib.Core.Path.{◌≡◌}
use lib.ListN.{length, drop}
use Rattle.text_spec.specs.Front.{front}
use Rattle.text.proofs.front.Given as goal

abbrev pub invariant-loop : goal.invariant-loop
invariant-loop l = (l.at ≤ length l.bytes) × (length (front l.most l.bytes) ≡ l.at + length (front (l.most - l.counter) (drop l.at l.bytes)))
