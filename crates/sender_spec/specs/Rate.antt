-- How many characters may leave (02, "Hold the typist to the client's rate"): "Over any 10,000 ms window, both ends included, the
-- characters in primaries sent may not exceed ten times the rate".
use Rattle.std.specs.Prelude.{ℕ, zero, suc, ◌-◌, ◌*◌, List, [], ◌∷◌, Bool, true, cond, ◌&&◌, ltb, leb, drop}
use Rattle.sender_spec.specs.State.{Settings}

abbrev pub window : ℕ
window = 10000

abbrev pub limit_of : Settings → ℕ
limit_of x = 10 * x.rate

-- characters by their times, newest first: none, or the newest of them left more than the window before t
abbrev pub outside : ℕ → List ℕ → Bool
outside t [] = true
outside t (a ∷ before) = ltb window (t - a)

-- n more may leave at t where all before the last `limit` characters, these n among them, lie outside the window
abbrev pub fits : ℕ → List ℕ → ℕ → ℕ → Bool
fits limit times t n = leb n limit && outside t (drop (limit - n) times)

-- the most of n characters that may leave at t
abbrev pub allowed : ℕ → List ℕ → ℕ → ℕ → ℕ
allowed limit times t zero = 0
allowed limit times t (suc n) = cond (fits limit times t (suc n)) (suc n) (allowed limit times t n)
