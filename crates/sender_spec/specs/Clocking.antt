-- The checks of the sender's clock call, ahead of "whether anything is due, then 8" (01, "Refusal numbers").
use Rattle.std.specs.Prelude.{ℕ, List, [], ◌∷◌, ltb}
use Rattle.sender_spec.specs.State.{Sender}
use Rattle.base.specs.Checks.{Check, ◌gives◌}
use Rattle.sender_spec.specs.Settings.{settings_check}

-- "clock below the latest accepted clock"
abbrev pub clock_checks : Sender → ℕ → List Check
clock_checks s t = settings_check s.settings ∷ ltb t s.clock gives 5 ∷ []
