-- The view of a receiver says all of it: so a receiver that comes back as the same for the definitions is the same.
use Rattle.std.proofs.Common.{◌≡◌}
use Rattle.receiver.specs.declared.Receiver.{Receiver}
use Rattle.receiver.specs.View.{receiver_of}

pub same_receiver : (a b : Receiver) → receiver_of a ≡ receiver_of b → a ≡ b
same_receiver a b e = λ i. record {
  t140 = (e i).t140;
  red = (e i).red;
  has_source = (e i).has_source;
  has_kept = (e i).has_kept;
  source = (e i).source;
  expected = (e i).expected;
  kept = (e i).kept;
}
