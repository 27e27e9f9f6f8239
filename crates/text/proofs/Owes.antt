-- What a letter that has begun still owes, by plain facts.
use Prim.Native.Nat.{ℕ, zero, suc, ◌-◌, ◌<◌}
use mathlib.Core.Path.{◌≡◌, ◌∙◌, refl, ap}
use mathlib.Core.List.{List, [], ◌∷◌}
use mathlib.Core.Option.{Option, some}
use native.Mathlib.Omega.{arith}
use lib.ListN.{length, replicate, length-replicate}
use Rattle.text.specs.declared.Owed.{Owed}
use Rattle.text_spec.specs.Utf8.{Range, ◌to◌, tail, owed_after}
use Rattle.text_spec.proofs.Rows.{ascii}
use Rattle.text.specs.Owed.{ranges, owes}

pub owes_none : (o : Owed) → o.tails ≡ 0 → owes o ≡ []
owes_none o e = ap (λ (n : ℕ). ranges n (o.low to o.high)) e

-- then a byte begins a letter, and an ASCII one is a letter
pub owes_lead : (o : Owed) (b : ℕ) {r : Option (List Range)} → o.tails ≡ 0 → owed_after [] b ≡ r → owed_after (owes o) b ≡ r
owes_lead o b z e = ap (λ (l : List Range). owed_after l b) (owes_none o z) ∙ e

pub owes_ascii : (o : Owed) (b : ℕ) → o.tails ≡ 0 → b < 0x80 → owed_after (owes o) b ≡ some (owes o)
owes_ascii o b z h = owes_lead o b z (rw (owes_none o z) (ascii b (omega arith)))

pub owes_some : (o : Owed) → (o.tails ≡ 0 → ⊥) → owes o ≡ (o.low to o.high) ∷ replicate (o.tails - 1) tail
owes_some o h = go o.tails h
  where
    go : (n : ℕ) → (n ≡ 0 → ⊥) → ranges n (o.low to o.high) ≡ (o.low to o.high) ∷ replicate (n - 1) tail
    go zero f = absurd (f refl)
    go (suc n) f = let e : n ≡ suc n - 1 = omega arith in ap (λ (k : ℕ). (o.low to o.high) ∷ replicate k tail) e

pub tails_only : (n : ℕ) → ranges n tail ≡ replicate n tail
tails_only zero = refl
tails_only (suc n) = refl

pub owes_tails : (o : Owed) → length (owes o) ≡ o.tails
owes_tails o = go o.tails
  where
    go : (n : ℕ) → length (ranges n (o.low to o.high)) ≡ n
    go zero = refl
    go (suc n) = ap suc (length-replicate n tail)
