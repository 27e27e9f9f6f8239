-- The code's calls, answered as their contracts say.
use Rattle.std.specs.Prelude.{ℕ, ◌≤◌, ◌≡◌, true, List, [], ◌∷◌, ◌++◌, length, take, drop}
use Rattle.journal_spec.specs.Contents.{longest_packet}
use Rattle.journal_spec.specs.Transcript.{transcript}
use Rattle.standing.specs.Calls.{TranscriptCall, fills, stops}
use Rattle.journal.specs.declared.Transcript.{Transcript}
use Rattle.journal.specs.Ready.{first, Filling, Stopping, done}

-- Calls of the code on one lent buffer, each answered as its contract says: from a transcript, the buffer p and the journal's
-- bytes still to come to those after the calls, with what was given, joined. A buffer keeps its length, and `stop` is called
-- only where the journal has no more bytes.
pub data Ran : Transcript → List ℕ → List ℕ → List TranscriptCall → List ℕ → Transcript → List ℕ → List ℕ → Type 0 where
  none : (s : Transcript) (p rest : List ℕ) → Ran s p rest [] [] s p rest
  filled : (s : Transcript) (p rest : List ℕ) (n : ℕ) (y : List ℕ) (s₁ : Transcript) (p₁ y₁ : List ℕ) (used count : ℕ) {ks : List TranscriptCall} {given : List ℕ} {s' : Transcript} {p' rest' : List ℕ}
      → Filling s p (take n rest) y s₁ p₁ y₁ used count → length p₁ ≡ length p → Ran s₁ p₁ (drop used rest) ks given s' p' rest'
      → Ran s p rest (fills n (length y) ∷ ks) (take count y₁ ++ given) s' p' rest'
  stopped : (s : Transcript) (p : List ℕ) (s₁ : Transcript) (p₁ : List ℕ) {ks : List TranscriptCall} {given : List ℕ} {s' : Transcript} {p' rest' : List ℕ}
      → Stopping s p s₁ p₁ → length p₁ ≡ length p → Ran s₁ p₁ [] ks given s' p' rest' → Ran s p [] (stops ∷ ks) given s' p' rest'

-- what the code gives of a journal
pub record CodeGives : Type 0 where
  pub front : (j p : List ℕ) (ks : List TranscriptCall) (given : List ℕ) (s' : Transcript) (p' rest' : List ℕ) → longest_packet ≤ length p → Ran first p j ks given s' p' rest'
      → (more : List ℕ) × (transcript j ≡ given ++ more)
  pub whole : (j p : List ℕ) (ks : List TranscriptCall) (given : List ℕ) (s' : Transcript) (p' rest' : List ℕ) → longest_packet ≤ length p → Ran first p j ks given s' p' rest'
      → done s' ≡ true → given ≡ transcript j
