-- The checks of a sender's settings: "Opening a sender checks 1, 2, 3 in order" (01, "Refusal numbers"), and then the rate
-- (02, "refusal 9 otherwise, checked after 3").
use Rattle.std.specs.Prelude.{ℕ, List, [], ◌∷◌, Bool, ◌||◌, not, ltb, eqb}
use Rattle.sender_spec.specs.State.{Settings}
use Rattle.packet_spec.specs.Limits.{level}
use Rattle.packet_spec.specs.Header.{types_bad}
use Rattle.base.specs.Checks.{Check, ◌gives◌, number_by}
use Rattle.sender_spec.specs.Limits.{longest_buffering, highest_rate}

-- 0, or above the highest
abbrev pub zero_or_above : ℕ → ℕ → Bool
zero_or_above most n = eqb n 0 || ltb most n

-- "buffering time 0 or above 500"
abbrev pub buffering_bad : ℕ → Bool
buffering_bad b = zero_or_above longest_buffering b

-- "a rate from 1 to 100"
abbrev pub rate_bad : ℕ → Bool
rate_bad r = zero_or_above highest_rate r

-- R above the highest level ("refusal 1 then means above 7", 02); the buffering time; "payload types outside 96..127, or equal";
-- the rate
abbrev pub settings_checks : Settings → List Check
settings_checks s =
    ltb level s.level gives 1
    ∷ buffering_bad s.buffering gives 2
    ∷ types_bad s.t140 s.red gives 3
    ∷ rate_bad s.rate gives 9
    ∷ []

-- the number of the first that applies; 0 where none does
unfoldable pub settings_number : Settings → ℕ
settings_number s = number_by (settings_checks s)

-- the four as one check: an opening makes it, and "Every call on either first repeats its opening's checks on the settings
-- held"
abbrev pub settings_check : Settings → Check
settings_check s = not (eqb (settings_number s) 0) gives settings_number s
