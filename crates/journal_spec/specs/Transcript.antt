-- The transcript of a journal (01, "Journal and transcript"): journal to packets, packets to the step's answers, answers to
-- text and counts.
use Rattle.std.specs.Prelude.{ℕ, ◌+◌, List, [], ◌∷◌, ◌++◌, Bool, true, false, cond, not, ◌||◌}
use Rattle.receiver_spec.specs.Opening.{open_receiver}
use Rattle.receiver_spec.specs.State.{zero_receiver, Receiver}
use Rattle.receiver_spec.specs.Step.{step_of, text_given}
use Rattle.receiver_spec.specs.Answers.{StepAnswer}
use Rattle.receiver_spec.specs.Kinds.{was_refused, was_late, was_jump}
use Rattle.receiver_spec.specs.Record.{loss_of}
use Rattle.receiver_spec.specs.Marks.{marks}
use Rattle.journal_spec.specs.Contents.{Contents, opens, packet, ends, breaks, journal_of}
use Rattle.journal_spec.specs.Lines.{counts_line, broken_line}

-- the packets of a journal, the receiver that its open opens, and whether it ends
abbrev pub packets_in : Contents → List (List ℕ)
packets_in (opens t140 red c) = packets_in c
packets_in (packet p c) = p ∷ packets_in c
packets_in ends = []
packets_in breaks = []

abbrev pub receiver_in : Contents → Receiver
receiver_in (opens t140 red c) = (open_receiver t140 red).receiver
receiver_in (packet p c) = zero_receiver
receiver_in ends = zero_receiver
receiver_in breaks = zero_receiver

abbrev pub is_whole : Contents → Bool
is_whole (opens t140 red c) = is_whole c
is_whole (packet p c) = is_whole c
is_whole ends = true
is_whole breaks = false

-- each packet goes to the receiver that the one before it left
abbrev pub answers_of : Receiver → List (List ℕ) → List StepAnswer
answers_of r [] = []
answers_of r (p ∷ ps) = (step_of r p).answer ∷ answers_of (step_of r p).receiver ps

-- "Marks stand before their packet's text", and "All of a loss's marks are written"
abbrev pub printed_of : List ℕ → StepAnswer → List ℕ
printed_of p a = marks (loss_of a) ++ text_given p a

abbrev pub printed_text : Receiver → List (List ℕ) → List ℕ
printed_text r [] = []
printed_text r (p ∷ ps) = printed_of p (step_of r p).answer ++ printed_text (step_of r p).receiver ps

-- a jump "counts as late in the transcript"; ""packets" counts those neither late nor refused"
abbrev pub counts_as_late : StepAnswer → Bool
counts_as_late a = was_late a || was_jump a

abbrev pub counts_as_packet : StepAnswer → Bool
counts_as_packet a = not (counts_as_late a || was_refused a)

-- the counts, over the list of answers
abbrev pub how_many : (StepAnswer → Bool) → List StepAnswer → ℕ
how_many f [] = 0
how_many f (a ∷ answers) = cond (f a) 1 0 + how_many f answers

abbrev pub lost_in : List StepAnswer → ℕ
lost_in [] = 0
lost_in (a ∷ answers) = loss_of a + lost_in answers

abbrev pub line_for : List StepAnswer → List ℕ
line_for answers = counts_line (how_many counts_as_packet answers) (how_many counts_as_late answers) (lost_in answers) (how_many was_refused answers)

abbrev pub printed : Contents → List ℕ
printed c =
    printed_text (receiver_in c) (packets_in c)
    ++ cond (is_whole c) (line_for (answers_of (receiver_in c) (packets_in c))) broken_line

-- what a journal prints
unfoldable pub transcript : List ℕ → List ℕ
transcript j = printed (journal_of j)
