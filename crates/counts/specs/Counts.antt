-- The counts so far, one answer at a time. `proofs/KeptCounts` shows that they are those over the list of answers.
use Rattle.std.specs.Prelude.{◌≡◌, ℕ, ◌+◌, ◌-◌, ◌*◌, ◌%◌, ◌<◌, ◌≤◌, Bool, true, ◌&&◌, List, nat_le}
use Rattle.counts.specs.declared.Counts.{Counts}
use Rattle.receiver_spec.specs.Answers.{gives, is_break, is_jump, is_late, refuses, StepAnswer}
use Rattle.journal_spec.specs.Contents.{limit}
use Rattle.journal_spec.specs.Lines.{counts_line}

abbrev pub no_counts : Counts
no_counts = record { packets = 0; late = 0; lost = 0; refused = 0 }

abbrev pub counted : StepAnswer → Counts → Counts
counted (refuses n) c = record { packets = c.packets; late = c.late; lost = c.lost; refused = c.refused + 1 }
counted (is_late z) c = record { packets = c.packets; late = c.late + 1; lost = c.lost; refused = c.refused }
counted (is_jump z) c = record { packets = c.packets; late = c.late + 1; lost = c.lost; refused = c.refused }
counted (is_break g) c = record { packets = c.packets + 1; late = c.late; lost = c.lost + g.loss; refused = c.refused }
counted (gives g) c = record { packets = c.packets + 1; late = c.late; lost = c.lost + g.loss; refused = c.refused }

-- as numbers of 64 bits
abbrev pub wrapped64 : Counts → Counts
wrapped64 c = record {
  packets = c.packets % 18446744073709551616;
  late = c.late % 18446744073709551616;
  lost = c.lost % 18446744073709551616;
  refused = c.refused % 18446744073709551616;
}

-- so many bytes may still be read: no more packets than bytes read, and for each no more blocks lost than a number of 16 bits says
abbrev pub counts_fit : Counts → ℕ → Bool
counts_fit c left =
    nat_le left limit && nat_le c.packets (limit - left) && nat_le c.late (limit - left) && nat_le c.refused (limit - left)
    && nat_le c.lost (65535 * (limit - left))

-- one packet more can be counted
pub record OneMore (c : Counts) (left : ℕ) : Type 0 where
  pub packets : c.packets < limit - left
  pub late : c.late < limit - left
  pub refused : c.refused < limit - left
  pub lost : c.lost + 65535 ≤ 65535 * (limit - left)

-- an answer took c to c': nothing wraps where one packet more can be counted
abbrev pub Counting : StepAnswer → Counts → Counts → Type 0
Counting a c c' = (left : ℕ) → OneMore c left → (c' ≡ counted a c) × (counts_fit c' left ≡ true)

unfoldable pub line_of : Counts → List ℕ
line_of c = counts_line c.packets c.late c.lost c.refused
