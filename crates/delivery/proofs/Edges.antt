-- What pins the window: lists at its very edge are inside, and one step further the claim is false.
use Prim.Native.Nat.{ℕ, suc, ◌+◌, ◌-◌, max}
use mathlib.Core.Bool.{true, false}
use mathlib.Core.List.{List, [], ◌∷◌, ◌++◌, map}
use mathlib.Core.Option.{none, some}
use mathlib.Core.Path.{◌≡◌, refl, ap, ◌∙◌, sym}
use native.Mathlib.Omega.{arith}
use lib.ListN.{length, length-append}
use borrow.Author.Tests.{eq-eqb}
use Rattle.delivery.specs.Numbers.{most_ahead, most_behind, wrapped, next}
use Rattle.delivery.specs.Course.{Course, jump, break, distance, course_of, is_kept, course_at}
use Rattle.delivery.specs.Record.{Entry, block}
use Rattle.delivery.specs.Sending.{BlockSender}
use Rattle.delivery.specs.Claim.{Near, newest_on_arrival, entry, expected_record}
use Rattle.delivery.specs.Internal.Core.{fresh, expects, adds_at, receiver_after_at, adds, record_from, sent, InOrder}
use Rattle.delivery.proofs.EntryCount.{first_adds}
use Rattle.delivery.proofs.WrappedDistance.{course_past_ahead, course_past_behind}
use Rattle.delivery.proofs.Ranges.{length_map_range}
use Rattle.delivery.proofs.Delivered.{delivered}

-- a sender that repeats nothing; block k holds the number k
abbrev pub alone : ℕ → BlockSender
alone f = record { first = f; block = λ k. k ∷ []; oldest = λ k. k; newest = λ k. k }

alone_in_order : (f : ℕ) → InOrder (alone f)
alone_in_order f = record { oldest_le = λ k. omega arith; oldest_rises = λ k. omega arith; newest_rises = λ k. omega arith }

-- packet 0, then packet k
abbrev pub ahead : ℕ → List ℕ
ahead k = 0 ∷ k ∷ []

-- packet k, then packet 0
abbrev pub behind : ℕ → List ℕ
behind k = k ∷ 0 ∷ []

-- packet k, then packets 0 and 1
abbrev pub behind_in_order : ℕ → List ℕ
behind_in_order k = k ∷ 0 ∷ 1 ∷ []

module _ (f : ℕ) where
  pub most_ahead_near : Near (alone f) (ahead most_ahead)
  most_ahead_near = (omega arith, omega arith, tt)

  pub most_behind_near : Near (alone f) (behind most_behind)
  most_behind_near = (omega arith, omega arith, tt)

  pub most_ahead_delivered : record_from fresh (map (sent (alone f)) (ahead most_ahead)) ≡ expected_record (alone f) (ahead most_ahead)
  most_ahead_delivered = delivered (alone f) (alone_in_order f) (ahead most_ahead) most_ahead_near

  pub most_behind_delivered : record_from fresh (map (sent (alone f)) (behind most_behind)) ≡ expected_record (alone f) (behind most_behind)
  most_behind_delivered = delivered (alone f) (alone_in_order f) (behind most_behind) most_behind_near

  -- one further ahead is a jump: the record has one entry, and one is expected for each block from 0 to k
  ahead_fails : (k : ℕ) → k ≡ suc most_ahead → record_from fresh (map (sent (alone f)) (ahead k)) ≡ expected_record (alone f) (ahead k) → ⊥
  ahead_fails k far claim =
      let e : ℕ = next (wrapped (f + 0)) in
      let jumps : course_at e none (sent (alone f) k).sequence ≡ jump = course_past_ahead f 0 k false (omega arith) (omega arith) in
      let nothing : adds (expects e none) (sent (alone f) k) ≡ [] =
      ap (λ (c : Course). adds_at c (distance (sent (alone f) k).sequence e) (sent (alone f) k)) jumps in
      let recorded : length (record_from fresh (map (sent (alone f)) (ahead k))) ≡ 1 =
      ap (λ (l : List Entry). length (block (0 ∷ []) ∷ (l ++ []))) nothing in
      let needed : length (expected_record (alone f) (ahead k)) ≡ suc (max 0 k) - 0 =
      length_map_range (entry (alone f) (newest_on_arrival (alone f) (ahead k))) 0 (suc (max 0 k) - 0) in
      let same : 1 ≡ suc (max 0 k) - 0 = sym recorded ∙ ap length claim ∙ needed in
      omega arith

  pub past_ahead_fails : record_from fresh (map (sent (alone f)) (ahead (suc most_ahead))) ≡ expected_record (alone f) (ahead (suc most_ahead)) → ⊥
  past_ahead_fails = ahead_fails (suc most_ahead) refl

  -- one further behind is a jump too. It adds nothing, as a late one would, but two of them in order are a break: block 1 is recorded
  -- behind block k, and none is expected but that of block k
  behind_fails : (k : ℕ) → k ≡ suc (suc most_behind) → record_from fresh (map (sent (alone f)) (behind_in_order k)) ≡ expected_record (alone f) (behind_in_order k) → ⊥
  behind_fails k far claim =
      let e : ℕ = next (wrapped (f + k)) in
      let m : ℕ = next (wrapped (f + 0)) in
      let p₀ = sent (alone f) 0 in
      let p₁ = sent (alone f) 1 in
      let jumps : course_at e none p₀.sequence ≡ jump = course_past_behind f k 0 false (omega arith) (omega arith) in
      let kept : is_kept (some m) p₁.sequence ≡ true = eq-eqb p₁.sequence m (omega arith) in
      let breaks : course_at e (some m) p₁.sequence ≡ break =
      ap (course_of (distance p₁.sequence e)) kept ∙ course_past_behind f k 1 true (omega arith) (omega arith) in
      let second : record_from (expects e none) (p₀ ∷ p₁ ∷ []) ≡ record_from (expects e (some m)) (p₁ ∷ []) =
      ap (λ (c : Course). adds_at c (distance p₀.sequence e) p₀ ++ record_from (receiver_after_at c e none p₀) (p₁ ∷ [])) jumps in
      let third : record_from (expects e (some m)) (p₁ ∷ []) ≡ block (1 ∷ []) ∷ [] =
      ap (λ (c : Course). adds_at c (distance p₁.sequence e) p₁ ++ []) breaks in
      let old : List Entry = adds fresh (sent (alone f) k) in
      let recorded : record_from fresh (map (sent (alone f)) (behind_in_order k)) ≡ old ++ (block (1 ∷ []) ∷ []) =
      ap (λ (l : List Entry). old ++ l) (second ∙ third) in
      let needed : length (expected_record (alone f) (behind_in_order k)) ≡ suc (max (max k 0) 1) - k =
      length_map_range (entry (alone f) (newest_on_arrival (alone f) (behind_in_order k))) k (suc (max (max k 0) 1) - k) in
      let same : length (old ++ (block (1 ∷ []) ∷ [])) ≡ suc (max (max k 0) 1) - k = ap length (sym recorded ∙ claim) ∙ needed in
      omega (arith, length-append old (block (1 ∷ []) ∷ []), first_adds (sent (alone f) k))

  pub past_behind_fails : record_from fresh (map (sent (alone f)) (behind_in_order (suc (suc most_behind)))) ≡ expected_record (alone f) (behind_in_order (suc (suc most_behind))) → ⊥
  past_behind_fails = behind_fails (suc (suc most_behind)) refl
