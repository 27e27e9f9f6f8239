-- Texts one behind the other are a text.
use Prim.Native.Nat.{ℕ, ◌+◌}
use mathlib.Core.Path.{◌≡◌, refl, ap}
use mathlib.Core.List.{List, ◌++◌, append_assoc}
use mathlib.Core.Bool.{true}
use native.Mathlib.Nat.{zero-add, suc-add}
use native.Mathlib.Omega.{arith}
use Rattle.text_spec.specs.Utf8.{Text, Characters, Stops, text_of, well_formed, is_text}
use Rattle.text_spec.specs.WellFormed.{Letters, empty, more}
use Rattle.text_spec.proofs.WellFormed.{characters_are_letters, letters_are_characters}

pub text_letters : (s : List ℕ) → is_text s ≡ true → (n : ℕ) × Letters n s
text_letters s e = go (text_of s) refl e
  where
    go : (t : Text) → text_of s ≡ t → well_formed t ≡ true → (n : ℕ) × Letters n s
    go (Characters n) q w = (n, characters_are_letters s n q)
    go (Stops k) q w = absurd (let z : ◌≡◌ {A = ℕ} 0 1 = cc in omega arith)

pub letters_text : (s : List ℕ) (n : ℕ) → Letters n s → is_text s ≡ true
letters_text s n l = ap well_formed (letters_are_characters s n l)

pub letters_append : {n m : ℕ} {x y : List ℕ} → Letters n x → Letters m y → Letters (n + m) (x ++ y)
letters_append empty b = rw zero-add b
letters_append {m} {y} (more {n} {l} {s} h r) b = rw (suc-add, append_assoc) (more h (letters_append r b))

pub text_join : (x y : List ℕ) → is_text x ≡ true → is_text y ≡ true → is_text (x ++ y) ≡ true
text_join x y a b =
    let l = text_letters x a in
    let r = text_letters y b in
    letters_text (x ++ y) (l.0 + r.0) (letters_append l.1 r.1)
