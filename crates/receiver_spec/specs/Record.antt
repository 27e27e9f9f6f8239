-- The record: over the accepted packets in order, as many loss marks as the answer's loss, and then the blocks given.
use Rattle.std.specs.Prelude.{ℕ, cond, List, [], ◌∷◌, ◌++◌}
use Rattle.packet_spec.specs.Reading.{Read, holds, refused, blocks}
use Rattle.delivery.specs.Record.{Entry, entries, last_of}
use Rattle.receiver_spec.specs.State.{Receiver, read_by}
use Rattle.receiver_spec.specs.Answers.{StepAnswer, refuses, is_late, is_jump, is_break, gives, Step, is_accepted}

-- the blocks of a packet, oldest first and the primary last
abbrev pub blocks_in : Read → List (List ℕ)
blocks_in (refused n) = []
blocks_in (holds c) = blocks c

-- the last blocks of the packet, as many as the answer says
abbrev pub blocks_given : Receiver → List ℕ → StepAnswer → List (List ℕ)
blocks_given r p (refuses n) = []
blocks_given r p (is_late z) = []
blocks_given r p (is_jump z) = []
blocks_given r p (is_break g) = last_of g.given (blocks_in (read_by r p))
blocks_given r p (gives g) = last_of g.given (blocks_in (read_by r p))

abbrev pub loss_of : StepAnswer → ℕ
loss_of (refuses n) = 0
loss_of (is_late z) = 0
loss_of (is_jump z) = 0
loss_of (is_break g) = g.loss
loss_of (gives g) = g.loss

abbrev pub entries_of : Receiver → List ℕ → StepAnswer → List Entry
entries_of r p a = entries (loss_of a) (blocks_given r p a)

-- the record of a list of packets, and those of them that are accepted, by a receiver's step: each call gets the receiver that
-- the last call returned
module _ (step : Receiver → List ℕ → Step) where
  abbrev pub record_of : Receiver → List (List ℕ) → List Entry
  record_of r [] = []
  record_of r (p ∷ ps) = entries_of r p (step r p).answer ++ record_of (step r p).receiver ps

  abbrev pub accepted_of : Receiver → List (List ℕ) → List (List ℕ)
  accepted_of r [] = []
  accepted_of r (p ∷ ps) = cond (is_accepted (step r p).answer) (p ∷ []) [] ++ accepted_of (step r p).receiver ps
