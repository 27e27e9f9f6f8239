-- How far a call of the code gets: what may still be read, and what is still to be given.
use Prim.Native.Nat.{ℕ, ◌+◌, ◌<◌, ◌≤◌}
use mathlib.Core.Path.{◌≡◌, ◌∙◌, ap, sym}
use mathlib.Core.List.{List, [], ◌++◌, append-nil}
use mathlib.Core.Bool.{Bool, true, false}
use native.Mathlib.Omega.{arith}
use lib.ListN.{length, drop, length-append}
use Rattle.standing.specs.Filling.{fill_of}
use Rattle.standing.proofs.StillToGive.{owed}
use Rattle.standing.proofs.Filling.{gets, fill_owed}
use Rattle.journal.specs.declared.Transcript.{Transcript}
use Rattle.journal.specs.Ready.{standing_of, ready_with, FillsIf, Filling}

-- how many bytes are still to be given, if no more than x comes
abbrev pub to_give : Transcript → List ℕ → List ℕ → ℕ
to_give s p x = length (owed (standing_of s p) x)

pub record FilledTo (s : Transcript) (p x y : List ℕ) (s' : Transcript) (p' : List ℕ) (used count : ℕ) : Type 0 where
  pub left : s'.left + used ≡ s.left
  pub uses : used ≤ length x
  pub fits : count ≤ length y
  pub less : 0 < count → to_give s' p' (drop used x) < to_give s p x

pub filled_to : (s : Transcript) (p x y : List ℕ) (s' : Transcript) (p' y' : List ℕ) (used count : ℕ) → Filling s p x y s' p' y' used count
    → FilledTo s p x y s' p' used count
filled_to s p x y s' p' y' used count t = go (ready_with s (length p)) t
  where
    go : (b : Bool) → FillsIf b s p x y s' p' y' used count → FilledTo s p x y s' p' used count
    go true t =
        let c = standing_of s p in
        let r = fill_of c x (length y) in
        let g = gets c x (length y) in
        let o : owed c x ≡ r.given ++ owed (standing_of s' p') (drop used x) =
        sym (ap (owed c) (append-nil x)) ∙ fill_owed [] c x (length y) ∙ (λ i. r.given ++ owed (sym t.stands i) (drop (sym t.uses i) (append-nil x i))) in
        record {
          left = (λ i. (t.stands i).left + t.uses i) ∙ g.left;
          uses = omega (arith, t.uses, g.uses);
          fits = omega (arith, t.counts, g.fits);
          less = λ z. omega (arith, t.counts, ap length o, length-append r.given (owed (standing_of s' p') (drop used x)));
        }
    go false t = record {
      left = (λ i. (t.0.transcript i).left + t.0.none i) ∙ omega arith;
      uses = omega (arith, t.0.none);
      fits = omega (arith, t.1.none);
      less = λ z. absurd (omega (arith, t.1.none));
    }
