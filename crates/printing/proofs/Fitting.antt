-- How much of what is due fits into a space.
use Prim.Native.Nat.{ℕ, ◌+◌, ◌-◌, ◌*◌, ◌≤◌, min}
use mathlib.Core.Path.{◌≡◌, ◌∙◌}
use mathlib.Core.List.{List}
use mathlib.Core.Bool.{Bool, true, false, cond}
use native.Mathlib.Omega.{arith}
use lib.Dec.{eqb}
use lib.ListN.{length, take, length-take, length-append}
use Rattle.receiver_spec.specs.Marks.{marks}
use Rattle.marks.proofs.MarkStores.{marks_length}
use Rattle.printing.specs.Fitting.{marks_fitting, text_fitting, due_fitting}

module _ (m : ℕ) (x : List ℕ) (n : ℕ) where
  abbrev k : Bool → ℕ
  k b = cond b (min (n - 3 * marks_fitting m n) (length x)) 0

  pub fitting_length : length (due_fitting m x n) ≡ 3 * marks_fitting m n + text_fitting m x n
  fitting_length = length-append (marks (marks_fitting m n)) (take (text_fitting m x n) x) ∙ go (eqb (marks_fitting m n) m)
    where
      go : (b : Bool) → length (marks (marks_fitting m n)) + length (take (k b) x) ≡ 3 * marks_fitting m n + k b
      go true = omega (arith, marks_length (marks_fitting m n), length-take (min (n - 3 * marks_fitting m n) (length x)) x)
      go false = omega (arith, marks_length (marks_fitting m n), length-take 0 x)

  pub fitting_fits : (3 * marks_fitting m n + text_fitting m x n ≤ n) × (text_fitting m x n ≤ length x)
  fitting_fits = go (eqb (marks_fitting m n) m)
    where
      go : (b : Bool) → (3 * marks_fitting m n + k b ≤ n) × (k b ≤ length x)
      go true = (omega arith, omega arith)
      go false = (omega arith, omega arith)
