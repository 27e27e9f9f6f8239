-- Text is bytes.
use Prim.Native.Nat.{ℕ, ◌<◌, ◌≤◌}
use mathlib.Core.Path.{◌≡◌}
use mathlib.Core.List.{List, ◌∷◌, Memᴰ}
use mathlib.Core.Bool.{true}
use native.Mathlib.Omega.{arith}
use Rattle.text_spec.specs.Utf8.{Range, Row, rows, is_text}
use Rattle.text_spec.specs.WellFormed.{Matches, end, byte, Letters, empty, more}
use Rattle.text_spec.proofs.Table.{bounds}
use Rattle.text_spec.proofs.TextJoin.{text_letters}
use Rattle.base.specs.Every.{Every}
use Rattle.base.proofs.EveryLaws.{every_append, every_one}

abbrev pub AllBytes : List ℕ → Type 0
AllBytes x = Every (λ (b : ℕ). b < 256) x

-- a range of bytes
abbrev OfBytes : Range → Type 0
OfBytes r = r.high < 256

abbrev FirstOfBytes : Row → Type 0
FirstOfBytes r = OfBytes r.first

abbrev RestOfBytes : Row → Type 0
RestOfBytes r = Every OfBytes r.rest

firsts : Every FirstOfBytes rows
firsts = omega arith

rests : Every RestOfBytes rows
rests = omega arith

row_bytes : {r : Row} → Memᴰ r rows → Every OfBytes (r.first ∷ r.rest)
row_bytes m = (every_one FirstOfBytes firsts m, every_one RestOfBytes rests m)

matches_bytes : {rs : List Range} {x : List ℕ} → Matches rs x → Every OfBytes rs → AllBytes x
matches_bytes end e = tt
matches_bytes (byte {r} {rs} {b} w m) e = let h : (r.low ≤ b) × (b ≤ r.high) = bounds r b w in (omega (arith, e.0), matches_bytes m e.1)

letters_bytes : {n : ℕ} {x : List ℕ} → Letters n x → AllBytes x
letters_bytes empty = tt
letters_bytes (more {n} {l} {s} h r) = every_append (λ (b : ℕ). b < 256) l s (matches_bytes h.bytes (row_bytes h.listed)) (letters_bytes r)

pub text_bytes : (x : List ℕ) → is_text x ≡ true → AllBytes x
text_bytes x e = letters_bytes (text_letters x e).1
