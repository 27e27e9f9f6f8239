-- Packets each of which adds one block to the record, and nothing else.
use Prim.Native.Nat.{ℕ}
use mathlib.Core.Path.{◌≡◌, refl, ap, ap₂}
use mathlib.Core.List.{List, [], ◌∷◌, ◌++◌, map}
use mathlib.Core.Bool.{Bool, true, cond}
use lib.ListN.{length}
use native.Mathlib.Omega.{arith}
use Rattle.delivery.specs.Record.{Entry, block}
use Rattle.receiver_spec.specs.State.{Receiver}
use Rattle.receiver_spec.specs.Step.{step_of}
use Rattle.receiver_spec.specs.Answers.{gives, is_break, is_jump, is_late, refuses, StepAnswer, is_accepted}
use Rattle.receiver_spec.specs.Record.{entries_of, record_of, accepted_of}

-- packet by packet, and block by block
pub data OneEach : Receiver → List (List ℕ) → List (List ℕ) → Type 0 where
  none : (r : Receiver) → OneEach r [] []
  one : (r : Receiver) (p b : List ℕ) {ps bs : List (List ℕ)} → entries_of r p (step_of r p).answer ≡ block b ∷ [] → OneEach (step_of r p).receiver ps bs → OneEach r (p ∷ ps) (b ∷ bs)

-- what adds something was accepted
adds_accepted : (r : Receiver) (p b : List ℕ) (a : StepAnswer) → entries_of r p a ≡ block b ∷ [] → is_accepted a ≡ true
adds_accepted r p b (refuses n) e = absurd (let z : ◌≡◌ {A = ℕ} 0 1 = ap length e in omega arith)
adds_accepted r p b (is_late z) e = refl
adds_accepted r p b (is_jump z) e = refl
adds_accepted r p b (is_break g) e = refl
adds_accepted r p b (gives g) e = refl

pub all_accepted : {r : Receiver} {ps bs : List (List ℕ)} → OneEach r ps bs → accepted_of step_of r ps ≡ ps
all_accepted (none r) = refl
all_accepted (one r p b e rest) =
    ap₂ {C = List (List ℕ)} (λ (x : Bool) (l : List (List ℕ)). cond x (p ∷ []) [] ++ l) (adds_accepted r p b (step_of r p).answer e) (all_accepted rest)

pub no_mark : {r : Receiver} {ps bs : List (List ℕ)} → OneEach r ps bs → record_of step_of r ps ≡ map block bs
no_mark (none r) = refl
no_mark (one r p b e rest) = ap₂ {C = List Entry} (λ (x y : List Entry). x ++ y) e (no_mark rest)
