-- The characters of a text, and its front of so many whole ones.
use Rattle.std.specs.Prelude.{ℕ, zero, suc, List, [], ◌∷◌, ◌++◌, length, take, drop}
use Rattle.text_spec.specs.Utf8.{Text, Characters, Stops, rows, begun, if_owed, text_of}

-- 0 of what is no text
abbrev pub counted : Text → ℕ
counted (Characters n) = n
counted (Stops at) = 0

abbrev pub characters : List ℕ → ℕ
characters s = counted (text_of s)

-- the first n characters; each is as long as the row of its first byte says
abbrev pub front : ℕ → List ℕ → List ℕ
front zero s = []
front (suc n) [] = []
front (suc n) (b ∷ s) = if_owed (begun rows b) (λ rest. b ∷ (take (length rest) s ++ front n (drop (length rest) s))) []
