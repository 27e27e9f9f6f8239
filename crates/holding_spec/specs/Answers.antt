-- The answers of a receiver that holds.
use Rattle.std.specs.Prelude.{ℕ, Bool, true, false, List, [], ℤ}
use Rattle.std.proofs.Math.Option.{Option, none}
use Rattle.receiver_spec.specs.Answers.{Given}
use Rattle.holding_spec.specs.State.{HoldingReceiver}

-- an opening by its number: 0, or the refusal's
pub record HoldingOpening : Type 0 where
  pub number : ℕ
  pub receiver : HoldingReceiver

-- which of a call's two packets, the one that is held and the new one
pub data Which : Type 0 where
  neither : Which
  held : Which
  new : Which

abbrev pub chosen : {A : Type 0} → Which → Option A → Option A → Option A
chosen neither h n = none
chosen held h n = h
chosen new h n = n

-- the bytes of the one, where these are lent
abbrev pub bytes_of : Which → List ℕ → List ℕ → List ℕ
bytes_of neither lent p = []
bytes_of held lent p = lent
bytes_of new lent p = p

-- what a call answers: a refusal's number; nothing given, with the new packet's distance, and the packet to keep; a late packet and
-- a jump likewise; a break; or blocks of one packet, the packet to keep, and whether the new one is to be given again
pub data HoldingAnswer : Type 0 where
  refuses : ℕ → HoldingAnswer
  waits : ℤ → Which → HoldingAnswer
  is_late : ℤ → Which → HoldingAnswer
  is_jump : ℤ → Which → HoldingAnswer
  is_break : Given → HoldingAnswer
  gives : Which → Which → Bool → Given → HoldingAnswer

pub record HoldingStep : Type 0 where
  pub receiver : HoldingReceiver
  pub answer : HoldingAnswer

abbrev pub was_refused : HoldingAnswer → Bool
was_refused (refuses n) = true
was_refused (waits z keep) = false
was_refused (is_late z keep) = false
was_refused (is_jump z keep) = false
was_refused (is_break g) = false
was_refused (gives of keep again g) = false

-- which packet the text is of
abbrev pub given_of : HoldingAnswer → Which
given_of (refuses n) = neither
given_of (waits z keep) = neither
given_of (is_late z keep) = neither
given_of (is_jump z keep) = neither
given_of (is_break g) = new
given_of (gives of keep again g) = of

-- which packet is to be kept: the held one still, where the call is refused
abbrev pub keep_of : HoldingAnswer → Which
keep_of (refuses n) = held
keep_of (waits z keep) = keep
keep_of (is_late z keep) = keep
keep_of (is_jump z keep) = keep
keep_of (is_break g) = neither
keep_of (gives of keep again g) = keep
