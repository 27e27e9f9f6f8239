-- The calls' answers in the terms of 01.
use Rattle.std.specs.Prelude.{ℕ, Bool, true, false, ℤ}
use Rattle.receiver_spec.specs.State.{Receiver}

-- an opening by its number: 0, or the refusal's
pub record Opening : Type 0 where
  pub number : ℕ
  pub receiver : Receiver

-- what a packet gives: the number of marks, the signed distance, how many older blocks it has, how many of its
-- last blocks are given, and where these start and end
pub record Given : Type 0 where
  pub loss : ℕ
  pub distance : ℤ
  pub older : ℕ
  pub given : ℕ
  pub from : ℕ
  pub to : ℕ

-- an answer by 01's numbers
pub data StepAnswer : Type 0 where
  refuses : ℕ → StepAnswer
  is_late : ℤ → StepAnswer
  is_jump : ℤ → StepAnswer
  is_break : Given → StepAnswer
  gives : Given → StepAnswer

pub record Step : Type 0 where
  pub receiver : Receiver
  pub answer : StepAnswer

-- accepted: answered without a refusal number, whatever its course
abbrev pub is_accepted : StepAnswer → Bool
is_accepted (refuses n) = false
is_accepted (is_late z) = true
is_accepted (is_jump z) = true
is_accepted (is_break g) = true
is_accepted (gives g) = true
