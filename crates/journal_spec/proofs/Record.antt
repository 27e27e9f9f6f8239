-- The transcript's text is the record of demand 3, each mark written EF BF BD and each block as its bytes.
use Prim.Native.Nat.{ℕ, zero, suc}
use mathlib.Core.Path.{◌≡◌, ◌∙◌, refl, ap, sym}
use mathlib.Core.List.{List, [], ◌∷◌, ◌++◌, map, append_assoc}
use lib.ListN.{replicate}
use Rattle.receiver_spec.specs.State.{Receiver}
use Rattle.packet_spec.specs.Redundancy.{joined}
use Rattle.delivery.specs.Record.{Entry, mark, block, entries}
use Rattle.receiver_spec.specs.Step.{step_of}
use Rattle.receiver_spec.specs.Record.{loss_of, blocks_given, entries_of, record_of}
use Rattle.receiver_spec.specs.Marks.{marks, mark_bytes}
use Rattle.receiver_spec.proofs.TextGiven.{text_is_blocks}
use Rattle.journal_spec.specs.Transcript.{printed_of, printed_text}

abbrev pub written_entry : Entry → List ℕ
written_entry mark = mark_bytes
written_entry (block x) = x

abbrev pub written_record : List Entry → List ℕ
written_record [] = []
written_record (e ∷ es) = written_entry e ++ written_record es

written_append : (x y : List Entry) → written_record (x ++ y) ≡ written_record x ++ written_record y
written_append [] y = refl
written_append (e ∷ x) y =
    ap (λ (l : List ℕ). written_entry e ++ l) (written_append x y) ∙ sym (append_assoc (written_entry e) (written_record x) (written_record y))

written_marks : (n : ℕ) → written_record (replicate n mark) ≡ marks n
written_marks zero = refl
written_marks (suc n) = ap (λ (l : List ℕ). mark_bytes ++ l) (written_marks n)

pub written_blocks : (bs : List (List ℕ)) → written_record (map block bs) ≡ joined bs
written_blocks [] = refl
written_blocks (b ∷ bs) = ap (λ (l : List ℕ). b ++ l) (written_blocks bs)

written_entries : (n : ℕ) (bs : List (List ℕ)) → written_record (entries n bs) ≡ marks n ++ joined bs
written_entries n bs =
    written_append (replicate n mark) (map block bs)
    ∙ ap (λ (l : List ℕ). l ++ written_record (map block bs)) (written_marks n)
    ∙ ap (λ (l : List ℕ). marks n ++ l) (written_blocks bs)

pub text_is_record : (r : Receiver) (ps : List (List ℕ)) → printed_text r ps ≡ written_record (record_of step_of r ps)
text_is_record r [] = refl
text_is_record r (p ∷ ps) =
    let s = step_of r p in
    ap (λ (l : List ℕ). printed_of p s.answer ++ l) (text_is_record s.receiver ps)
    ∙ ap (λ (l : List ℕ). marks (loss_of s.answer) ++ l ++ written_record (record_of step_of s.receiver ps)) (text_is_blocks r p)
    ∙ ap (λ (l : List ℕ). l ++ written_record (record_of step_of s.receiver ps)) (sym (written_entries (loss_of s.answer) (blocks_given r p s.answer)))
    ∙ sym (written_append (entries_of r p s.answer) (record_of step_of s.receiver ps))
