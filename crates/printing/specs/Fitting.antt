-- How much of what is to be printed fits into a space.
use Rattle.std.specs.Prelude.{ℕ, ◌-◌, ◌*◌, ◌/◌, min, cond, List, ◌++◌, eqb, length, take}
use Rattle.receiver_spec.specs.Marks.{marks, mark_bytes}

abbrev pub fitting : List ℕ → List ℕ → List ℕ
fitting x space = take (length space) x

-- of so many marks and the text x behind them, in a space of n bytes: whole marks, and text once all are put
abbrev pub marks_fitting : ℕ → ℕ → ℕ
marks_fitting m n = min m (n / length mark_bytes)

abbrev pub text_fitting : ℕ → List ℕ → ℕ → ℕ
text_fitting m x n = cond (eqb (marks_fitting m n) m) (min (n - length mark_bytes * marks_fitting m n) (length x)) 0

abbrev pub due_fitting : ℕ → List ℕ → ℕ → List ℕ
due_fitting m x n = marks (marks_fitting m n) ++ take (text_fitting m x n) x
