-- The transcript of a whole journal whose packets each add one block to the record: the blocks, and no loss.
use Prim.Native.Nat.{ℕ, zero, suc}
use mathlib.Core.Path.{◌≡◌, ◌∙◌, refl, ap, ap₂}
use mathlib.Core.List.{List, [], ◌∷◌, ◌++◌, head-eq_of_cons-eq}
use mathlib.Core.Bool.{Bool, true, cond}
use native.Mathlib.Omega.{arith}
use lib.ListN.{length}
use Rattle.packet_spec.specs.Redundancy.{joined}
use Rattle.delivery.specs.Record.{block, entries}
use Rattle.receiver_spec.specs.Opening.{open_receiver}
use Rattle.receiver_spec.specs.State.{Receiver}
use Rattle.receiver_spec.specs.Step.{step_of}
use Rattle.receiver_spec.specs.Answers.{gives, is_break, is_jump, is_late, refuses, StepAnswer}
use Rattle.receiver_spec.specs.Kinds.{was_refused}
use Rattle.receiver_spec.specs.Record.{blocks_given, entries_of}
use Rattle.journal_spec.specs.Contents.{packets_then_end, whole_of, journal_of}
use Rattle.journal_spec.specs.Lines.{counts_line, broken_line}
use Rattle.journal_spec.specs.Transcript.{packets_in, is_whole, answers_of, printed_text, counts_as_packet, counts_as_late, how_many, lost_in, line_for, printed, transcript}
use Rattle.delivery.proofs.MarkIsNoBlock.{mark_is_no_block}
use Rattle.receiver_spec.proofs.OneEach.{OneEach, none, one, no_mark}
use Rattle.journal_spec.proofs.Record.{written_record, written_blocks, text_is_record}

packets_are : (ps : List (List ℕ)) → packets_in (packets_then_end ps) ≡ ps
packets_are [] = refl
packets_are (p ∷ ps) = ap (λ (l : List (List ℕ)). p ∷ l) (packets_are ps)

is_whole_lem : (ps : List (List ℕ)) → is_whole (packets_then_end ps) ≡ true
is_whole_lem [] = refl
is_whole_lem (p ∷ ps) = is_whole_lem ps

-- answers to so many packets that give their text, without a loss
pub record NoneLost (answers : List StepAnswer) (n : ℕ) : Type 0 where
  pub packets : how_many counts_as_packet answers ≡ n
  pub late : how_many counts_as_late answers ≡ 0
  pub lost : lost_in answers ≡ 0
  pub refused : how_many was_refused answers ≡ 0

-- where one block is added, no mark is
no_loss : (marks : ℕ) (b : List ℕ) (bs : List (List ℕ)) → entries marks bs ≡ block b ∷ [] → marks ≡ 0
no_loss zero b bs e = refl
no_loss (suc m) b bs e = absurd (mark_is_no_block b (head-eq_of_cons-eq e))

one_more : (r : Receiver) (p b : List ℕ) (a : StepAnswer) (answers : List StepAnswer) (n : ℕ) → entries_of r p a ≡ block b ∷ [] → NoneLost answers n → NoneLost (a ∷ answers) (suc n)
one_more r p b (refuses m) answers n e f = absurd (let z : ◌≡◌ {A = ℕ} 0 1 = ap length e in omega arith)
one_more r p b (is_late m) answers n e f = absurd (let z : ◌≡◌ {A = ℕ} 0 1 = ap length e in omega arith)
one_more r p b (is_jump m) answers n e f = absurd (let z : ◌≡◌ {A = ℕ} 0 1 = ap length e in omega arith)
one_more r p b (is_break g) answers n e f =
    let none : g.loss ≡ 0 = no_loss g.loss b (blocks_given r p (is_break g)) e in
    record { packets = omega (arith, f.packets); late = omega (arith, f.late); lost = omega (arith, f.lost, none); refused = omega (arith, f.refused) }
one_more r p b (gives g) answers n e f =
    let none : g.loss ≡ 0 = no_loss g.loss b (blocks_given r p (gives g)) e in
    record { packets = omega (arith, f.packets); late = omega (arith, f.late); lost = omega (arith, f.lost, none); refused = omega (arith, f.refused) }

none_lost : {r : Receiver} {ps bs : List (List ℕ)} → OneEach r ps bs → NoneLost (answers_of r ps) (length ps)
none_lost (none r) = record { packets = refl; late = refl; lost = refl; refused = refl }
none_lost (one r p b e rest) = one_more r p b (step_of r p).answer _ _ e (none_lost rest)

pub prints_each : (t140 red : ℕ) {ps bs : List (List ℕ)} (j : List ℕ) → journal_of j ≡ whole_of t140 red ps → OneEach (open_receiver t140 red).receiver ps bs
    → transcript j ≡ joined bs ++ counts_line (length ps) 0 0 0
unfolding transcript
prints_each t140 red {ps} {bs} j e each =
    let r = (open_receiver t140 red).receiver in
    let f = none_lost each in
    ap printed e
    ∙ ap₂ {C = List ℕ} (λ (l : List (List ℕ)) (w : Bool). printed_text r l ++ cond w (line_for (answers_of r l)) broken_line) (packets_are ps) (is_whole_lem ps)
    ∙ ap₂ {C = List ℕ} (λ (x y : List ℕ). x ++ y)
    (text_is_record r ps ∙ ap written_record (no_mark each) ∙ written_blocks bs)
    (ap₂ {C = List ℕ} (λ (n k : ℕ). counts_line n k (lost_in (answers_of r ps)) (how_many was_refused (answers_of r ps))) f.packets f.late
    ∙ ap₂ {C = List ℕ} (λ (n k : ℕ). counts_line (length ps) 0 n k) f.lost f.refused)
