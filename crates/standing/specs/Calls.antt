-- Lists of calls, however the journal is cut and however short the space.
use Rattle.std.specs.Prelude.{ℕ, ◌+◌, ◌<◌, ◌≡◌, true, false, List, [], ◌∷◌, ◌++◌, length, take, drop}
use Rattle.parts.specs.Bytes.{going}
use Rattle.journal_spec.specs.Transcript.{transcript}
use Rattle.standing.specs.Standing.{Standing, start_standing, stop_of, hungry, nothing_due, finished}
use Rattle.standing.specs.Filling.{fill_of}

-- A call: `fill` is lent the journal's next n bytes (fewer, where the journal has fewer) and m bytes of space; or `stop` is
-- called, which is done only where the journal has no more bytes.
pub data TranscriptCall : Type 0 where
  fills : (n m : ℕ) → TranscriptCall
  stops : TranscriptCall

-- what was given, joined; where the calls led; and what of the journal is still to come
pub record Played : Type 0 where
  pub given : List ℕ
  pub standing : Standing
  pub rest : List ℕ

abbrev pub behind : List ℕ → Played → Played
behind x r = record { given = x ++ r.given; standing = r.standing; rest = r.rest }

unfoldable pub play : List TranscriptCall → Standing → List ℕ → Played
play [] c rest = record { given = []; standing = c; rest = rest }
play (fills n m ∷ ks) c rest =
    behind (fill_of c (take n rest) m).given (play ks (fill_of c (take n rest) m).standing (drop (fill_of c (take n rest) m).used rest))
play (stops ∷ ks) c [] = play ks (stop_of c) []
play (stops ∷ ks) c (b ∷ rest) = play ks c (b ∷ rest)

pub record Cuts : Type 0 where
  -- whatever the calls, what was given is a front of the transcript
  pub front : (j : List ℕ) (ks : List TranscriptCall) → (more : List ℕ) × (transcript j ≡ (play ks start_standing j).given ++ more)
  -- and the whole of it once the calls say that it is done
  pub whole : (j : List ℕ) (ks : List TranscriptCall) → finished (play ks start_standing j).standing ≡ true → (play ks start_standing j).given ≡ transcript j
  -- the calls get on: `fill` leaves something due only where fewer than three bytes of its space are left
  pub fills_up : (c : Standing) (x : List ℕ) (n : ℕ) → nothing_due (fill_of c x n).standing ≡ false → n < length (fill_of c x n).given + 3
  -- and otherwise uses all it is lent, unless reading has ended
  pub uses_all : (c : Standing) (x : List ℕ) (n : ℕ) → hungry (fill_of c x n).standing ≡ true → (fill_of c x n).used ≡ length x
  -- and where nothing is due, reading has ended behind `stop`
  pub stops_all : (c : Standing) → nothing_due c ≡ true → going (stop_of c).reading.part ≡ false
