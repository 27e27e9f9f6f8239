-- What is due after an answer and after a line, and when nothing is.
use Prim.Native.Nat.{ℕ, ◌-◌, ◌<◌, ◌≤◌}
use mathlib.Core.Path.{◌≡◌, ◌∙◌, refl, ap, sym}
use mathlib.Core.List.{List, []}
use mathlib.Core.Bool.{Bool, true, false, ◌&&◌}
use native.Mathlib.Omega.{arith}
use borrow.Author.Tests.{leb-true, leb-false, le-leb, eq-eqb, ne_eqb}
use lib.Dec.{leb, eqb}
use lib.ListN.{length, take, drop, length-append}
use lib.Seq.{take-take, take_at, length-take-le}
use Rattle.base.specs.Arrays.{over}
use Rattle.base.proofs.Tests.{both}
use Rattle.base.proofs.Fronts.{drop_take}
use Rattle.base.proofs.PartOf.{part_mid}
use Rattle.receiver.specs.declared.Given as answer
use Rattle.receiver.specs.declared.Answer.{Answer}
use Rattle.receiver.specs.declared.Answer.TheVariants.{Break, Forward}
use Rattle.receiver.specs.View.{step_answer}
use Rattle.receiver_spec.specs.Step.{text_given}
use Rattle.receiver_spec.specs.Answers.{Given, gives, is_break, is_jump, is_late, refuses, StepAnswer}
use Rattle.receiver_spec.specs.Record.{loss_of}
use Rattle.receiver_spec.proofs.GivenWithin.{Within}
use Rattle.journal_spec.specs.Contents.{longest_packet}
use Rattle.due.specs.declared.Due.{Due}
use Rattle.due.specs.Due.{empty_due, line_due, due_of, none_due, due_within, text_due}
use Rattle.due.proofs.Giving.{lies, text_length}

pub none_text : (p : List ℕ) → text_due empty_due p ≡ []
none_text p = part_mid 0 0 p (omega arith) (omega arith)

-- the answer to a packet of so many bytes, with which p begins
module _ (p : List ℕ) (size : ℕ) (small : size ≤ longest_packet) (long : longest_packet ≤ length p) where
  front : length (take size p) ≡ size
  front = length-take-le size p (omega arith)

  given_within : (g : Given) → Within (take size p) (gives g) → due_within (due_of (gives g)) ≡ true
  given_within g w = both (le-leb g.from g.to w.0) (le-leb g.to longest_packet (omega (arith, w.1, front)))

  pub answer_within : (a : StepAnswer) → Within (take size p) a → due_within (due_of a) ≡ true
  answer_within (refuses n) w = refl
  answer_within (is_late z) w = refl
  answer_within (is_jump z) w = refl
  answer_within (is_break g) w = given_within g w
  answer_within (gives g) w = given_within g w

  given_text : (g : Given) → Within (take size p) (gives g) → text_due (due_of (gives g)) p ≡ text_given (take size p) (gives g)
  given_text g w =
      let f = g.from in
      let t = g.to in
      let i : t ≤ size = omega (arith, w.1, front) in
      part_mid f t p w.0 (omega arith)
      ∙ sym (part_mid f t (take size p) w.0 w.1
      ∙ ap (take (t - f)) (drop_take f size p)
      ∙ take-take (t - f) (size - f) (drop f p) (omega arith))

  pub answer_text : (a : StepAnswer) → Within (take size p) a → text_due (due_of a) p ≡ text_given (take size p) a
  answer_text (refuses n) w = none_text p
  answer_text (is_late z) w = none_text p
  answer_text (is_jump z) w = none_text p
  answer_text (is_break g) w = given_text g w
  answer_text (gives g) w = given_text g w

pub answer_marks : (a : StepAnswer) → (due_of a).marks ≡ loss_of a
answer_marks (refuses n) = refl
answer_marks (is_late z) = refl
answer_marks (is_jump z) = refl
answer_marks (is_break g) = refl
answer_marks (gives g) = refl

-- a line over the front of p
pub line_text : (line p : List ℕ) (n : ℕ) → n ≡ length line → text_due (line_due n) (over line p) ≡ line
line_text line p n e =
    let z : n - 0 ≡ n = omega arith in
    part_mid 0 n (over line p) (omega arith) (omega (arith, length-append line (drop (length line) p)))
    ∙ ap (λ (k : ℕ). take k (over line p)) z
    ∙ take_at line (drop (length line) p) n (sym e)

pub line_within : (n : ℕ) → n ≤ longest_packet → due_within (line_due n) ≡ true
line_within n h = both (le-leb 0 n (omega arith)) (le-leb n longest_packet h)

none_left : (f t : ℕ) → f ≤ t → leb t f ≡ eqb (t - f) 0
none_left f t h = go (leb t f) refl
  where
    tie : t - f ≡ 0 → f < t → ⊥
    tie z l = omega arith

    go : (b : Bool) → leb t f ≡ b → b ≡ eqb (t - f) 0
    go true e = let x : t ≤ f = leb-true t f e in sym (eq-eqb (t - f) 0 (omega arith))
    go false e = sym (ne_eqb (t - f) 0 (λ z. tie z (leb-false t f e)))

pub none_is : (d : Due) (p : List ℕ) → due_within d ≡ true → longest_packet ≤ length p → none_due d ≡ (eqb d.marks 0 && eqb (length (text_due d p)) 0)
none_is d p ok long =
    ap (λ (b : Bool). eqb d.marks 0 && b)
    (none_left d.from d.to (lies d p ok long).0 ∙ ap (λ (n : ℕ). eqb n 0) (sym (text_length d p ok long)))

pub forward_due : (a : Answer) (g : answer.Given) → a ≡ Forward g → record { marks = g.loss; from = g.from; to = g.to } ≡ due_of (step_answer a)
forward_due a g e = rw e

pub break_due : (a : Answer) (g : answer.Given) → a ≡ Break g → record { marks = g.loss; from = g.from; to = g.to } ≡ due_of (step_answer a)
break_due a g e = rw e
