-- The pieces with which a journal's next records begin.
use Rattle.std.specs.Prelude.{ℕ, List, [], ◌∷◌}
use Rattle.journal_spec.specs.Records.{Record, ending, opening, beginning, piece, time, bad, records_up_to}

-- up to the first record of another kind
abbrev pub leading : List Record → List (List ℕ)
leading [] = []
leading (piece x ∷ rs) = x ∷ leading rs
leading (ending ∷ rs) = []
leading (opening t140 red ∷ rs) = []
leading (beginning n ∷ rs) = []
leading (time ∷ rs) = []
leading (bad ∷ rs) = []

-- of n records at most
abbrev pub pieces_first : ℕ → List ℕ → List (List ℕ)
pieces_first n s = leading (records_up_to n s)
