use Prim.Native.Nat.{ℕ, suc, ◌+◌, ◌-◌, ◌≤◌}
use mathlib.Core.Path.{◌≡◌, ◌∙◌, ap}
use mathlib.Core.List.{List, [], ◌∷◌, ◌++◌, append-nil}
use native.Mathlib.Omega.{arith}
use lib.ListN.{length, set, take, drop, drop_of_length-le}
use lib.Seq.{paste}
use borrow.Author.Rules.{rules}
use Rattle.packet_spec.specs.Limits.{level}
use Rattle.slots.proofs.keep_block.Goals as goal

-- an array moved on by one, and x in front
pushed : (x n : ℕ) (l : List ℕ) → length l ≡ suc n → set (paste l 1 (drop 0 l) n) 0 x ≡ take (suc n) (x ∷ l)
pushed x n [] h = absurd (omega arith)
pushed x n (y ∷ l) h =
    let last : length (y ∷ l) ≤ 1 + n = omega arith in
    ap (λ (r : List ℕ). x ∷ (take n (y ∷ l) ++ r)) (drop_of_length-le (y ∷ l) last) ∙ ap (λ (r : List ℕ). x ∷ r) (append-nil (take n (y ∷ l)))

pub returns : goal.returns
unfolding level
returns c =
    let k = c.args.kept.now in
    let lens : length k.lens ≡ level = search rules in
    let ats : length k.ats ≡ level = search rules in
    λ i. record {
      lens = (ap (λ (l : List ℕ). set l 0 c.args.len) c.copy_within.ensures.after ∙ pushed c.args.len (level - 1) k.lens lens) i;
      ats = (ap (λ (l : List ℕ). set l 0 c.args.clock) c.copy_within-2.ensures.after ∙ pushed c.args.clock (level - 1) k.ats ats) i;
      count = c.min.ensures i + 1;
    }
