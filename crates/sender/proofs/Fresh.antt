-- The times of a fresh sender.
use Prim.Native.Nat.{ℕ, min}
use mathlib.Core.Path.{◌≡◌, ap}
use mathlib.Core.List.{List, []}
use native.Mathlib.Omega.{arith}
use Rattle.rate.specs.Circle.{slot_at, times_back, times_in}

-- no slot was used
pub times_none : (n : ℕ) (log : List ℕ) → times_in n log 0 0 ≡ []
times_none n log = let z : min 0 n ≡ 0 = omega arith in ap (times_back n log (slot_at n 0)) z
