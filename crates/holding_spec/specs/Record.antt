-- The record over the answers of a list of calls, in order: as many loss marks as the answer's loss, and then the blocks given.
use Rattle.std.specs.Prelude.{ℕ, List, [], ◌∷◌, ◌++◌}
use Rattle.std.proofs.Math.Option.{Option, none, some}
use Rattle.delivery.specs.Record.{Entry, entries, last_of}
use Rattle.receiver_spec.specs.State.{read_by}
use Rattle.receiver_spec.specs.Record.{blocks_in}
use Rattle.holding_spec.specs.State.{HoldingReceiver}
use Rattle.holding_spec.specs.Answers.{bytes_of, HoldingAnswer, refuses, waits, is_late, is_jump, is_break, gives, HoldingStep}

-- a clock, what is lent as the packet held, and the packet that arrived, if one did
pub record Call : Type 0 where
  pub clock : ℕ
  pub lent : List ℕ
  pub packet : Option (List ℕ)

-- the bytes lent as the new packet: none, where none arrived
abbrev pub new_bytes : Option (List ℕ) → List ℕ
new_bytes none = []
new_bytes (some p) = p

-- the last blocks of the packet that the answer names, as many as it says
abbrev pub blocks_given : HoldingReceiver → Call → HoldingAnswer → List (List ℕ)
blocks_given s c (refuses n) = []
blocks_given s c (waits z keep) = []
blocks_given s c (is_late z keep) = []
blocks_given s c (is_jump z keep) = []
blocks_given s c (is_break g) = last_of g.given (blocks_in (read_by s.receiver (new_bytes c.packet)))
blocks_given s c (gives of keep again g) = last_of g.given (blocks_in (read_by s.receiver (bytes_of of c.lent (new_bytes c.packet))))

abbrev pub loss_of : HoldingAnswer → ℕ
loss_of (refuses n) = 0
loss_of (waits z keep) = 0
loss_of (is_late z keep) = 0
loss_of (is_jump z keep) = 0
loss_of (is_break g) = g.loss
loss_of (gives of keep again g) = g.loss

abbrev pub entries_of : HoldingReceiver → Call → HoldingAnswer → List Entry
entries_of s c a = entries (loss_of a) (blocks_given s c a)

-- by a receiver's calls, each on the receiver that the last one returned
module _ (step : HoldingReceiver → ℕ → List ℕ → Option (List ℕ) → HoldingStep) where
  abbrev pub step_for : HoldingReceiver → Call → HoldingStep
  step_for s c = step s c.clock c.lent c.packet

  abbrev pub record_of : HoldingReceiver → List Call → List Entry
  record_of s [] = []
  record_of s (c ∷ cs) = entries_of s c (step_for s c).answer ++ record_of (step_for s c).receiver cs
