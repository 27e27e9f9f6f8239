-- Packets that arrive once each and in order, from the first on: each adds its own block, and no mark.
use Prim.Native.Nat.{ℕ, zero, suc, ◌+◌, ◌-◌, min}
use mathlib.Core.Bool.{false}
use mathlib.Core.List.{List, [], ◌∷◌, ◌++◌, map}
use mathlib.Core.Option.{none}
use mathlib.Core.Path.{◌≡◌, ap, ap₂, ◌∙◌}
use native.Mathlib.Omega.{arith}
use lib.ListN.{length, drop}
use lib.Seq.{drop-length}
use Rattle.delivery.specs.Numbers.{wrapped, next}
use Rattle.delivery.specs.Course.{course_of, distance}
use Rattle.delivery.specs.Record.{Bytes, Entry, block, last_of, entries}
use Rattle.delivery.specs.Sending.{BlockSender, range}
use Rattle.delivery.specs.Run.{oldest_of, Rules, sender_of}
use Rattle.delivery.specs.Internal.Core.{BlockReceiver, fresh, expects, last_blocks, adds_at, receiver_after_at, adds, receiver_after, sent}

none_wanted : (xs : List Bytes) → last_of 0 xs ≡ []
none_wanted xs = let e : length xs - 0 ≡ length xs = omega arith in ap (λ (n : ℕ). drop n xs) e ∙ drop-length xs

module _ (P : Rules) where
  abbrev S : BlockSender
  S = sender_of P

  -- a receiver that has accepted the packets before packet k
  abbrev pub before : ℕ → BlockReceiver
  before zero = fresh
  before (suc k) = expects (wrapped (P.first + suc k)) none

  -- packet k, which is the expected one, adds its own block,
  pub adds_own : (k : ℕ) → adds (before k) (sent S k) ≡ block (P.block k) ∷ []
  adds_own zero =
      let first = oldest_of P.level P.time 0 in
      let none : 0 - first ≡ 0 = omega arith in
      ap (λ (n : ℕ). entries 0 (last_blocks (length (map P.block (range first n))) (record { sequence = wrapped (P.first + 0); older = map P.block (range first n); primary = P.block 0 }))) none
  adds_own (suc k) =
      let e = wrapped (P.first + suc k) in
      let older = (sent S (suc k)).older in
      let here : distance e e ≡ 0 = omega arith in
      let lost : 0 - length older ≡ 0 = omega arith in
      let more : min 0 (length older) ≡ 0 = omega arith in
      ap (λ (d : ℕ). adds_at (course_of d false) d (sent S (suc k))) here
      ∙ ap₂ {C = List Entry} (λ (a b : ℕ). entries a (last_blocks b (sent S (suc k)))) lost more
      ∙ ap (λ (xs : List Bytes). entries 0 (xs ++ (P.block (suc k) ∷ []))) (none_wanted older)

  -- and then the next is expected
  pub after_own : (k : ℕ) → receiver_after (before k) (sent S k) ≡ before (suc k)
  after_own zero = let on : next (wrapped (P.first + 0)) ≡ wrapped (P.first + 1) = omega arith in ap (λ (n : ℕ). expects n none) on
  after_own (suc k) =
      let e = wrapped (P.first + suc k) in
      let here : distance e e ≡ 0 = omega arith in
      let on : next e ≡ wrapped (P.first + suc (suc k)) = omega arith in
      ap (λ (d : ℕ). receiver_after_at (course_of d false) e none (sent S (suc k))) here ∙ ap (λ (n : ℕ). expects n none) on
