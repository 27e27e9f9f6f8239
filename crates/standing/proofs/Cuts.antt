-- However the journal is cut and however short the space: what is given and what is owed is always the transcript.
use Prim.Native.Nat.{ℕ}
use mathlib.Core.Path.{◌≡◌, ◌∙◌, refl, ap, sym}
use mathlib.Core.List.{List, [], ◌∷◌, ◌++◌, append_assoc, append-nil}
use mathlib.Core.Bool.{Bool, true, false, cond, ◌&&◌, not, true≢false}
use borrow.Author.Tests.{eqb-true}
use lib.Dec.{eqb}
use lib.ListN.{length, take, drop, take-append-drop}
use Rattle.receiver_spec.specs.Marks.{marks}
use Rattle.parts.specs.declared.Part.TheVariants.{Broken}
use Rattle.parts.specs.Bytes.{going, tells}
use Rattle.parts.proofs.BytesTellRecords.{agree}
use Rattle.journal_spec.specs.Lines.{broken_line}
use Rattle.journal_spec.specs.Transcript.{transcript}
use Rattle.standing.specs.Standing.{Standing, start_standing, closed, nothing_due, stop_of, finished}
use Rattle.standing.specs.Filling.{fill_of}
use Rattle.standing.specs.Calls.{TranscriptCall, fills, stops, play, Cuts}
use Rattle.counts.proofs.KeptCounts.{told, told_is}
use Rattle.base.proofs.Fronts.{empty}
use Rattle.standing.proofs.StillToGive.{owed, stop_owed}
use Rattle.standing.proofs.Filling.{gets, fill_owed}

-- any calls
pub kept : (ks : List TranscriptCall) (c : Standing) (rest : List ℕ) → owed c rest ≡ (play ks c rest).given ++ owed (play ks c rest).standing (play ks c rest).rest
unfolding play
kept [] c rest = refl
kept (fills n m ∷ ks) c rest =
    let r = fill_of c (take n rest) m in
    let later = play ks r.standing (drop r.used rest) in
    (rw (take-append-drop n rest) at (fill_owed (drop n rest) c (take n rest) m))
    ∙ ap (λ (l : List ℕ). r.given ++ l) (kept ks r.standing (drop r.used rest))
    ∙ sym (append_assoc r.given later.given (owed later.standing later.rest))
kept (stops ∷ ks) c [] = stop_owed c ∙ kept ks (stop_of c) []
kept (stops ∷ ks) c (b ∷ rest) = kept ks c (b ∷ rest)

finished_owes : (c : Standing) (rest : List ℕ) → finished c ≡ true → owed c rest ≡ []
finished_owes c rest h = go (going c.reading.part) (eqb c.marks 0) refl (eqb (length c.text) 0) refl h
  where
    go : (a b : Bool) → eqb c.marks 0 ≡ b → (d : Bool) → eqb (length c.text) 0 ≡ d → not a && (b && d) ≡ true
        → marks c.marks ++ c.text ++ cond a (told c.receiver c.counts (tells c.reading (take c.left rest))) [] ≡ []
    go true b e d f z = absurd (true≢false (sym z))
    go false true e true f z = rw (eqb-true c.marks 0 e, empty c.text (eqb-true (length c.text) 0 f))
    go false true e false f z = absurd (true≢false (sym z))
    go false false e d f z = absurd (true≢false (sym z))

start_owes : (j : List ℕ) → transcript j ≡ owed start_standing j
start_owes j = sym (told_is j) ∙ ap (told start_standing.receiver start_standing.counts) (sym (agree j))

kept_from : (j : List ℕ) (ks : List TranscriptCall) → transcript j ≡ (play ks start_standing j).given ++ owed (play ks start_standing j).standing (play ks start_standing j).rest
kept_from j ks = start_owes j ∙ kept ks start_standing j

stops_all : (c : Standing) → nothing_due c ≡ true → going (stop_of c).reading.part ≡ false
unfolding stop_of
stops_all c h = go (going c.reading.part) refl
  where
    go : (b : Bool) → going c.reading.part ≡ b → going (cond (b && nothing_due c) (closed c Broken broken_line) c).reading.part ≡ false
    go true e = rw h
    go false e = e

pub cuts : Cuts
cuts = record {
  front = λ j ks. (owed (play ks start_standing j).standing (play ks start_standing j).rest, kept_from j ks);
  whole = λ j ks h.
      sym (kept_from j ks
      ∙ ap (λ (l : List ℕ). (play ks start_standing j).given ++ l) (finished_owes (play ks start_standing j).standing (play ks start_standing j).rest h)
      ∙ append-nil (play ks start_standing j).given);
  fills_up = λ c x n. (gets c x n).fills_up;
  uses_all = λ c x n. (gets c x n).uses_all;
  stops_all = stops_all;
}
