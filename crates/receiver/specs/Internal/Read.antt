-- The step of a packet as the reader hands it over. One with more older blocks than are read gets the number 18 of the table.
use Rattle.std.specs.Prelude.{ℕ, cond, List, nat_lt}
use Rattle.packet.specs.declared.Packet.{Packet}
use Rattle.packet_spec.specs.Limits.{level}
use Rattle.receiver_spec.specs.State.{Receiver}
use Rattle.receiver_spec.specs.Answers.{Step, refuses}
use Rattle.receiver.specs.Internal.Accepted.{accepted_step, gave_step}

abbrev pub if_read : Receiver → Packet → Step → Step
if_read r k s = cond (nat_lt level k.count) (record { receiver = r; answer = refuses 18 }) s

abbrev pub read_step : Receiver → List ℕ → Packet → Step
read_step r p k = if_read r k (accepted_step r p k)

abbrev pub read_given : Receiver → List ℕ → Packet → Step
read_given r p k = if_read r k (gave_step r p k)
