-- What the exported calls of the sender say.
use Rattle.std.specs.Prelude.{ℕ, Result, ◌^◌, ◌≡◌, List, cond, ltb, ℤ, pos, neg_ℤ, replicate}
use Rattle.packet.specs.declared.Refusal.{Refusal}
use Rattle.packet.specs.Refusal.{outcome_number}
use Rattle.sender_spec.specs.Answers.{ClockAnswer, refused, quiet, sent}
use Rattle.slots.specs.Slots.{texts_size}
use Rattle.settings.specs.declared.Settings.{Settings}
use Rattle.sender.specs.declared.Sender.{Sender}
use Rattle.sender.specs.Opening.{opened_outcome, opened_record, Opens}
use Rattle.sender.specs.Offering.{Offers}
use Rattle.writer.specs.Draft.{Answered, clock_answer}
use Rattle.sender.specs.Clocking.{Clocks}

abbrev pub settings_from : ℕ → ℕ → ℕ → ℕ → ℕ → ℕ → ℕ → ℕ → Settings
settings_from level buffering rate t140 red sequence timestamp source = record {
  level = level;
  buffering = buffering;
  rate = rate;
  t140 = t140;
  red = red;
  sequence = sequence;
  timestamp = timestamp;
  source = source;
}

-- the length of the packet sent, 0 where the call is quiet, minus the number of the refusal
abbrev pub clock_code : ClockAnswer → ℤ
clock_code (refused n) = neg_ℤ (pos n)
clock_code quiet = pos 0
clock_code (sent n) = pos n

-- a length that a signed number of 64 bits counts, 0 for any other, which no packet has
abbrev pub signed_code : ℕ → ℤ
signed_code n = cond (ltb n (2 ^ 63)) (pos n) (pos 0)

-- the same as clock_code, of every answer that the clock call gives
abbrev pub code_of : ClockAnswer → ℤ
code_of (refused n) = neg_ℤ (pos n)
code_of quiet = pos 0
code_of (sent n) = signed_code n

-- the number r, the sender and the texts that an opening leaves
pub record OpensIn (x : Settings) (r : ℕ) (s' : Sender) (texts' : List ℕ) : Type 0 where
  pub opened : Result Sender Refusal
  pub number : r ≡ outcome_number (opened_outcome opened)
  pub sender : s' ≡ opened_record opened
  pub opens : Opens x opened
  pub cleared : texts' ≡ replicate texts_size 0

-- the number r of an offer; the number names the refusal
pub record OffersIn (s : Sender) (texts : List ℕ) (t : ℕ) (x : List ℕ) (r : ℕ) (s' : Sender) (texts' : List ℕ) : Type 0 where
  pub outcome : Result Unit Refusal
  pub number : r ≡ outcome_number outcome
  pub offers : Offers s texts t x outcome s' texts'

-- the code r of a clock call
pub record ClocksIn (s : Sender) (texts log : List ℕ) (t : ℕ) (p : List ℕ) (r : ℤ) (s' : Sender) (texts' log' p' : List ℕ) : Type 0 where
  pub answer : Answered
  pub code : r ≡ clock_code (clock_answer answer)
  pub clocks : Clocks s texts log t p answer s' texts' log' p'
