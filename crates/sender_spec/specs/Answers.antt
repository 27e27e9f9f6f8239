-- The calls' answers in the terms of 01.
use Rattle.std.specs.Prelude.{ℕ, List}
use Rattle.sender_spec.specs.State.{Sender}

-- of an opening and of an offer: the number of the refusal, 0 where accepted, and the sender
pub record CallResult : Type 0 where
  pub number : ℕ
  pub sender : Sender

-- of the clock call: the refusal's number, 01's "quiet", or the length of the packet sent
pub data ClockAnswer : Type 0 where
  refused : ℕ → ClockAnswer
  quiet : ClockAnswer
  sent : ℕ → ClockAnswer

-- with the sender and the lent bytes afterwards
pub record ClockResult : Type 0 where
  pub answer : ClockAnswer
  pub sender : Sender
  pub lent : List ℕ
