-- Runs of ASCII with other letters among them (02, request 3), computed.
use Prim.Native.Nat.{ℕ}
use mathlib.Core.Path.{◌≡◌, refl}
use mathlib.Core.List.{List, [], ◌∷◌, ◌++◌}
use lib.ListN.{replicate}
use Rattle.base.specs.Every.{Every}
use Rattle.text_spec.specs.Utf8.{Text, Characters, Stops, text_of}

pub record Case : Type 0 where
  pub bytes : List ℕ
  pub text : Text

infixl 20 ◌is◌
abbrev pub ◌is◌ : List ℕ → Text → Case
s is t = record { bytes = s; text = t }

-- so many times 41 hex
abbrev pub letters : ℕ → List ℕ
letters n = replicate n 0x41

unfoldable pub cases : List Case
cases =
    ([] is Characters 0)
    ∷ (0x7F ∷ [] is Characters 1)
    ∷ (0x80 ∷ [] is Stops 0)
    ∷ (letters 64 is Characters 64)
    ∷ (letters 63 ++ (0x80 ∷ []) is Stops 63)
    ∷ (letters 64 ++ (0xC3 ∷ []) is Stops 65)
    ∷ (letters 64 ++ (0xC3 ∷ 0xA5 ∷ []) is Characters 65)
    ∷ (letters 63 ++ (0xC3 ∷ 0xA5 ∷ []) ++ replicate 64 0x42 is Characters 128)
    ∷ (0xE2 ∷ 0x82 ∷ letters 64 is Stops 2)
    ∷ (letters 127 ++ (0xFF ∷ []) is Stops 127)
    ∷ []

pub ascii_tests : Every (λ (c : Case). text_of c.bytes ≡ c.text) cases
unfolding cases
ascii_tests = (refl, (refl, (refl, (refl, (refl, (refl, (refl, (refl, (refl, (refl, tt))))))))))
