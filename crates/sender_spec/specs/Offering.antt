-- Offering text (01, "Refusal numbers" and "The sender").
use Rattle.std.specs.Prelude.{ℕ, ◌+◌, min, List, [], ◌∷◌, ◌++◌, cond, not, ltb, eqb, length}
use Rattle.text_spec.specs.Utf8.{is_text}
use Rattle.text_spec.specs.Front.{characters}
use Rattle.base.specs.Checks.{Check, ◌gives◌}
use Rattle.sender_spec.specs.Limits.{room_size}
use Rattle.sender_spec.specs.Settings.{settings_check}
use Rattle.sender_spec.specs.State.{Sender, has_text}

-- "Offering text: 5, 7, 6, 4": clock below the latest accepted clock; offered text is empty, is not UTF-8, does not fit in
-- the waiting room
abbrev pub offer_checks : Sender → ℕ → List ℕ → List Check
offer_checks s t x =
    settings_check s.settings
    ∷ ltb t s.clock gives 5
    ∷ eqb (length x) 0 gives 7
    ∷ not (is_text x) gives 6
    ∷ ltb room_size (length s.waiting + length x) gives 4
    ∷ []

-- "offered text joins the waiting room", which counts its characters (no more than its bytes) and remembers when its first byte
-- was offered; "Accepted calls keep the latest" clock
abbrev pub sender_with : Sender → ℕ → List ℕ → Sender
sender_with s t x = record {
  settings = s.settings;
  clock = t;
  waiting = s.waiting ++ x;
  characters = min (s.characters + characters x) room_size;
  since = cond (has_text s.waiting) s.since t;
  kept = s.kept;
  times = s.times;
  progress = s.progress;
}
