-- The blocks that may still be repeated, by their lengths and times, newest first.
use Rattle.std.specs.Prelude.{ℕ, suc, ◌+◌, ◌-◌, ◌*◌, ◌≤◌, ◌<◌, min, ◌≡◌, List, [], ◌∷◌, ◌++◌, Bool, cond, leb, get_or, take, drop, replicate}
use Rattle.delivery.specs.Run.{oldest_age}
use Rattle.packet_spec.specs.Limits.{level}
use Rattle.sender_spec.specs.Limits.{room_size}

-- a block that was sent at this time may be repeated at t
abbrev pub young : ℕ → ℕ → Bool
young t at = leb (t - at) oldest_age

-- how many of the first times are young
abbrev pub young_run : ℕ → List ℕ → ℕ
young_run t [] = 0
young_run t (at ∷ ats) = cond (young t at) (suc (young_run t ats)) 0

-- the bytes of all texts
abbrev pub text_total : List ℕ → ℕ
text_total [] = 0
text_total (n ∷ lens) = min n room_size + text_total lens

-- the age of a block and the bytes of its text, in one number above 0
abbrev pub tag_of : ℕ → ℕ → ℕ → ℕ
tag_of t n at = (16384 + (t - at)) * 256 + min n room_size

abbrev pub tags_of : ℕ → List ℕ → List ℕ → List ℕ
tags_of t [] ats = []
tags_of t (n ∷ lens) [] = []
tags_of t (n ∷ lens) (at ∷ ats) = tag_of t n at ∷ tags_of t lens ats

-- those of the first n blocks, and zeros
abbrev pub tagged : ℕ → List ℕ → List ℕ → ℕ → List ℕ
tagged t lens ats n = take n (tags_of t lens ats) ++ drop n (replicate level 0)

-- the first n tags are above 0, and no others
abbrev pub TagFirst : List ℕ → ℕ → Type 0
TagFirst tags n = (i : ℕ) → i < level → (i < n → 0 < get_or tags i 0) × (n ≤ i → get_or tags i 0 ≡ 0)
