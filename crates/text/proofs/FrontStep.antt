-- The front of a text, a character at a time.
use Prim.Native.Nat.{ℕ, ◌+◌, ◌-◌, ◌<◌, ◌≤◌, min}
use mathlib.Core.Path.{◌≡◌, ◌∙◌, ap}
use mathlib.Core.List.{List, []}
use mathlib.Core.Option.{some}
use mathlib.Core.Logic.{⊎_elim}
use native.Mathlib.Omega.{arith}
use lib.ListN.{length, get_or, drop, drop_of_length-le}
use Rattle.std.proofs.lemmas.Bool.{cases_lt}
use Rattle.text_spec.specs.Utf8.{Range, owed_after}
use Rattle.text_spec.specs.Front.{front}
use Rattle.text_spec.proofs.FrontLaws.{front_nothing}
use Rattle.text_spec.proofs.FrontWalk.{front_on_at, front_cut_at}

pub front_at_end : (n at : ℕ) (s : List ℕ) → length s ≤ at → front n (drop at s) ≡ []
front_at_end n at s h = ap (front n) (drop_of_length-le s h) ∙ front_nothing n

-- a letter of t bytes more, or what there is of it, and the front behind it
pub front_step : (n at : ℕ) (s : List ℕ) → at < length s → {rest : List Range} → owed_after [] (get_or s at 0) ≡ some rest
    → (t : ℕ) → length rest ≡ t → (m : ℕ) → m ≡ min (length s) (at + (1 + t)) → at + length (front (n + 1) (drop at s)) ≡ m + length (front n (drop m s))
front_step n at s h e t l m f =
    let k : 1 ≤ n + 1 = omega arith in
    let p : n + 1 - 1 ≡ n = omega arith in
    ⊎_elim
    (λ (g : at + t < length s). let q : m ≡ at + (1 + t) = omega arith in rw q (omega (arith, rw p at (front_on_at (n + 1) at s h k e t l g))))
    (λ (g : length s ≤ at + t). omega (arith, front_cut_at (n + 1) at s h k e t l g, ap length (front_at_end n m s (omega arith))))
    (cases_lt (at + t) (length s))
