-- The lines that close a transcript are short.
use Prim.Native.Nat.{ℕ, zero, suc, ◌+◌, ◌/◌, ◌%◌, ◌≤◌}
use mathlib.Core.List.{[], ◌∷◌, ◌++◌}
use mathlib.Core.Bool.{Bool, true, false, cond}
use native.Mathlib.Omega.{arith}
use lib.Dec.{ltb}
use lib.ListN.{length, length-append}
use Rattle.journal_spec.specs.Contents.{longest_packet}
use Rattle.journal_spec.specs.Lines.{decimal_up_to, decimal, counts_line}

digits_short : (k n : ℕ) → length (decimal_up_to k n) ≤ k
unfolding decimal_up_to
digits_short zero n = omega arith
digits_short (suc k) n = go (ltb n 10) (digits_short k (n / 10))
  where
    go : (b : Bool) → length (decimal_up_to k (n / 10)) ≤ k → length (cond b ((48 + n) ∷ []) (decimal_up_to k (n / 10) ++ ((48 + n % 10) ∷ []))) ≤ suc k
    go true h = omega arith
    go false h = omega (arith, length-append (decimal_up_to k (n / 10)) ((48 + n % 10) ∷ []))

decimal_short : (n : ℕ) → length (decimal n) ≤ 20
unfolding decimal
decimal_short n = digits_short 20 n

pub counts_short : (a b c d : ℕ) → length (counts_line a b c d) ≤ longest_packet
unfolding counts_line
counts_short a b c d = simp length-append (omega (arith, decimal_short a, decimal_short b, decimal_short c, decimal_short d))
