-- A line: what a maker's calls answer, with the state and the lent bytes behind them. The demands are predicates of a line.
-- `Ours` is the one whose calls the code is proved to make; those of proofs/ImpostorReceivers, ImpostorSenders, ImpostorRates,
-- ImpostorCourses and ImpostorHolding fail.
use Rattle.std.specs.Prelude.{ℕ, List}
use Rattle.std.proofs.Math.Option.{Option}
use Rattle.text_spec.specs.Utf8.{Text}
use Rattle.packet_spec.specs.Header.{Expected}
use Rattle.packet_spec.specs.Reading.{Content, Read}
use Rattle.receiver_spec.specs.State.{Receiver}
use Rattle.receiver_spec.specs.Answers.{Opening, StepAnswer, Step}
use Rattle.holding_spec.specs.State.{HoldingReceiver}
use Rattle.holding_spec.specs.Answers.{HoldingOpening, HoldingAnswer, HoldingStep}
use Rattle.sender_spec.specs.State.{Settings, Sender}
use Rattle.sender_spec.specs.Answers.{CallResult, ClockResult}

pub record Line : Type 0 where
  -- what bytes are as text
  pub text : List ℕ → Text
  -- a packet by itself, by the source expected, T140 and RED; and block k of its bytes, as they were read
  pub read : Expected → ℕ → ℕ → List ℕ → Read
  pub block : List ℕ → Content → ℕ → List ℕ
  -- a receiver's opening by T140 and RED, its step, and the text that the step hands out of a packet
  pub open_receiver : ℕ → ℕ → Opening
  pub step : Receiver → List ℕ → Step
  pub hand_out : List ℕ → StepAnswer → List ℕ
  -- the same of a receiver that holds: a call has a clock, what is lent as the packet held, and a packet or none; the text is of
  -- what is lent or of the packet
  pub open_holding : ℕ → ℕ → HoldingOpening
  pub hold : HoldingReceiver → ℕ → List ℕ → Option (List ℕ) → HoldingStep
  pub hand_out_either : List ℕ → List ℕ → HoldingAnswer → List ℕ
  -- a sender's opening, an offer of text at a clock, and a clock call with a lent space
  pub open_sender : Settings → CallResult
  pub offer : Sender → ℕ → List ℕ → CallResult
  pub clock : Sender → ℕ → List ℕ → ClockResult
