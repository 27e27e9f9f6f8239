-- The sending rules over packet bytes (01, "The lists of demand 3"). Of a packet's layout, offsets and source nothing is said.
use Rattle.std.specs.Prelude.{ℕ, ◌+◌, ◌-◌, ◌≤◌, ◌≡◌, List, map}
use Rattle.packet_spec.specs.Limits.{level}
use Rattle.packet_spec.specs.Header.{Any}
use Rattle.packet_spec.specs.Reading.{Content, holds, reading}
use Rattle.delivery.specs.Numbers.{wrapped}
use Rattle.delivery.specs.Sending.{range}
use Rattle.delivery.specs.Run.{oldest_of, NeverFalls, Rules}

-- packet k as it is read: its number, block k, and as older blocks exactly the run for its time
pub record IsPacket (rules : Rules) (k : ℕ) (c : Content) : Type 0 where
  pub sequence : c.sequence ≡ wrapped (rules.first + k)
  pub primary : c.primary ≡ rules.block k
  pub older : map (λ b. b.bytes) c.older ≡ map rules.block (range (oldest_of rules.level rules.time k) (k - oldest_of rules.level rules.time k))

-- a sender with these payload types, whose packet k has these bytes, keeps the rules: R is at most the highest level, times
-- never fall, and packet k, wherever the reader accepts it, is read so
pub record KeepsRules (t140 red : ℕ) (rules : Rules) (packet : ℕ → List ℕ) : Type 0 where
  pub small : rules.level ≤ level
  pub rises : NeverFalls rules.time
  pub reads : (k : ℕ) (c : Content) → reading level Any t140 red (packet k) ≡ holds c → IsPacket rules k c
