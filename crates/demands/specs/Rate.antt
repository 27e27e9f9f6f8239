-- The rate (02, "Hold the typist to the client's rate"), over every list of calls from an accepted opening, refused ones included,
-- and over the bytes written. That what was typed is what is sent, in fronts and leftovers, is demand 2's `as_typed`.
use Rattle.std.specs.Prelude.{ℕ, ◌+◌, ◌-◌, ◌*◌, ◌≤◌, ◌≡◌, List, [], ◌∷◌, ◌++◌, cond, ◌&&◌, leb, length}
use Rattle.base.specs.Every.{Every}
use Rattle.text_spec.specs.Utf8.{Characters, text_of}
use Rattle.text_spec.specs.Front.{characters}
use Rattle.packet_spec.specs.Limits.{level}
use Rattle.packet_spec.specs.Header.{Any}
use Rattle.packet_spec.specs.Reading.{Read, holds, refused, reading}
use Rattle.sender_spec.specs.State.{Settings}
use Rattle.sender_spec.specs.Answers as answers
use Rattle.demands.specs.Line.{Line}
use Rattle.demands.specs.Sending.{Call, clock, Written, writes, sent_by, left_by}

-- the primary of a packet as it is read; none where it is refused
abbrev pub primary_of : Read → List ℕ
primary_of (holds c) = c.primary
primary_of (refused n) = []

abbrev pub primary_read : Settings → Written → List ℕ
primary_read x w = primary_of (reading level Any x.t140 x.red w.packet)

-- the characters in primaries of packets written at times a to b, both included
abbrev pub characters_within : Settings → ℕ → ℕ → List Written → ℕ
characters_within x a b [] = 0
characters_within x a b (w ∷ ws) = cond (leb a w.time && leb w.time b) (characters (primary_read x w)) 0 + characters_within x a b ws

-- "ten times the rate", less the characters of the window that ends at t: as many fit there
abbrev pub spare : Settings → List Written → ℕ → ℕ
spare x ws t = 10 * x.rate - characters_within x (t - 10000) t ws

-- the longest front of whole characters, n of them at most
pub record LongestFront (n : ℕ) (room x : List ℕ) : Type 0 where
  pub rest : List ℕ
  pub is_front : x ++ rest ≡ room
  pub count : ℕ
  pub whole : text_of x ≡ Characters count
  pub fits : count ≤ n
  pub no_longer : (y z : List ℕ) (k : ℕ) → y ++ z ≡ room → text_of y ≡ Characters k → k ≤ n → length y ≤ length x

pub record Rate (l : Line) : Type 0 where
  -- "Over any 10,000 ms window, both ends included, the characters in primaries sent may not exceed ten times the rate"
  pub limit : (x : Settings) (calls : List Call) → (l.open_sender x).number ≡ 0 → (a : ℕ) → characters_within x a (a + 10000) (sent_by l x calls) ≤ 10 * x.rate
  -- "A due packet takes the longest whole-character front of the waiting room that fits"
  pub longest : (x : Settings) (calls : List Call) → (l.open_sender x).number ≡ 0
      → (t : ℕ) (p : List ℕ) → Every (λ (w : Written). LongestFront (spare x (sent_by l x calls) t) (left_by l x calls).waiting (primary_read x w)) (writes l (left_by l x calls) (clock t p))
  -- "if none fits, the due rule treats the room as empty", and only then: a call that is quiet once the buffering time is over
  -- holds back no character that fits
  pub quiet : (x : Settings) (calls : List Call) → (l.open_sender x).number ≡ 0
      → (t : ℕ) (p : List ℕ) → Every (λ (w : Written). w.time + x.buffering ≤ t) (sent_by l x calls) → (l.clock (left_by l x calls) t p).answer ≡ answers.quiet
      → LongestFront (spare x (sent_by l x calls) t) (left_by l x calls).waiting []
