-- The receiver's step (01, "The receiver's step"; 02, request 4).
use Rattle.std.specs.Prelude.{ℕ, suc, ◌-◌, true, false, cond, List, [], ℤ, pos, length}
use Rattle.base.specs.Arrays.{part}
use Rattle.packet_spec.specs.Header.{payload_end}
use Rattle.packet_spec.specs.Redundancy.{joined}
use Rattle.packet_spec.specs.Reading.{Content, Read, holds, refused, blocks}
use Rattle.delivery.specs.Numbers.{next}
use Rattle.delivery.specs.Record.{last_of}
use Rattle.delivery.specs.Course.{distance, Course, forward, late, jump, break, course_at, loss, wanted}
use Rattle.receiver_spec.specs.Distance.{signed}
use Rattle.receiver_spec.specs.State.{Receiver, kept_by, keeping, read_by}
use Rattle.receiver_spec.specs.Answers.{Given, StepAnswer, refuses, is_late, is_jump, is_break, gives, Step}

-- a packet of this source and number that gives its text fixes the source, the next number is expected, and none is kept
abbrev pub moved_to : Receiver → ℕ → ℕ → Receiver
moved_to r source n = record {
  t140 = r.t140;
  red = r.red;
  has_source = true;
  source = source;
  expected = next n;
  has_kept = false;
  kept = 0;
}

-- the last w older blocks and the primary, which fill the end of the payload
abbrev pub given_from : List ℕ → Content → ℕ → ℤ → ℕ → Given
given_from p c marks z w = record {
  loss = marks;
  distance = z;
  older = length c.older;
  given = suc w;
  from = payload_end p - length (joined (last_of (suc w) (blocks c)));
  to = payload_end p;
}

-- at distance d: loss d minus r, the last min(d, r) older blocks
abbrev pub given_at : List ℕ → Content → ℕ → Given
given_at p c d = given_from p c (loss d (length c.older)) (signed d) (wanted d (length c.older))

-- all blocks, loss 0, distance 0
abbrev pub all_of : List ℕ → Content → Given
all_of p c = given_from p c 0 (pos 0) (length c.older)

-- fresh
abbrev pub first_step : Receiver → List ℕ → Content → Step
first_step r p c = record { receiver = moved_to r c.source c.sequence; answer = gives (all_of p c) }

-- late: state unchanged; a jump "hands out no text" and "keeps its sequence plus 1, wrapped"; a break "starts the receiver afresh
-- with the same source" and "gives all its blocks"
abbrev pub step_by : Course → Receiver → List ℕ → Content → ℕ → Step
step_by forward r p c d = record { receiver = moved_to r c.source c.sequence; answer = gives (given_at p c d) }
step_by late r p c d = record { receiver = r; answer = is_late (signed d) }
step_by jump r p c d = record { receiver = keeping r (next c.sequence); answer = is_jump (signed d) }
step_by break r p c d = record { receiver = moved_to r c.source c.sequence; answer = is_break (all_of p c) }

abbrev pub step_read : Receiver → List ℕ → Read → Step
step_read r p (refused n) = record { receiver = r; answer = refuses n }
step_read r p (holds c) =
    let d = distance c.sequence r.expected in
    cond r.has_source (step_by (course_at r.expected (kept_by r) c.sequence) r p c d) (first_step r p c)

unfoldable pub step_of : Receiver → List ℕ → Step
step_of r p = step_read r p (read_by r p)

-- the text handed out: the part of the packet from the first wanted block to the primary's end
abbrev pub text_given : List ℕ → StepAnswer → List ℕ
text_given p (refuses n) = []
text_given p (is_late z) = []
text_given p (is_jump z) = []
text_given p (is_break g) = part g.from g.to p
text_given p (gives g) = part g.from g.to p
