-- The core of demand 3: over packets as they are read, what a receiver adds to the record, and the claim that this is the
-- expected one. The demands do not speak of it; they rest on it.
use Rattle.std.specs.Prelude.{ℕ, suc, ◌+◌, ◌-◌, ◌≤◌, ◌<◌, ◌≡◌, List, [], ◌∷◌, ◌++◌, map, length}
use Rattle.std.proofs.Math.Option.{Option, none, some}
use Rattle.delivery.specs.Numbers.{wrapped, next}
use Rattle.delivery.specs.Course.{Course, forward, late, jump, break, distance, course_at, wanted, loss}
use Rattle.delivery.specs.Record.{Bytes, Entry, last_of, entries}
use Rattle.delivery.specs.Sending.{BlockSender, range}
use Rattle.delivery.specs.Run.{oldest_age}
use Rattle.delivery.specs.Claim.{Near, expected_record}

-- what is read from an accepted packet: the sequence number, the older blocks (oldest first), the primary
pub record Packet : Type 0 where
  pub sequence : ℕ
  pub older : List Bytes
  pub primary : Bytes

-- a receiver as far as the record goes: fresh (no packet accepted yet),
-- or with the sequence number it expects, "newest plus 1", and the number that a jump kept, if there is one
pub data BlockReceiver : Type 0 where
  fresh : BlockReceiver
  expects : ℕ → Option ℕ → BlockReceiver

-- the blocks given, where so many older ones are wanted
abbrev pub last_blocks : ℕ → Packet → List Bytes
last_blocks w p = last_of w p.older ++ (p.primary ∷ [])

-- the first packet "gives all its blocks, oldest first, loss 0"
abbrev pub adds_first : Packet → List Entry
adds_first p = entries 0 (last_blocks (length p.older) p)

-- what a packet at distance d adds, and the receiver after it, by the packet's course
abbrev pub adds_at : Course → ℕ → Packet → List Entry
adds_at forward d p = entries (loss d (length p.older)) (last_blocks (wanted d (length p.older)) p)
adds_at late d p = []
adds_at jump d p = []
adds_at break d p = adds_first p

abbrev pub receiver_after_at : Course → ℕ → Option ℕ → Packet → BlockReceiver
receiver_after_at forward e kept p = expects (next p.sequence) none
receiver_after_at late e kept p = expects e kept
receiver_after_at jump e kept p = expects e (some (next p.sequence))
receiver_after_at break e kept p = expects (next p.sequence) none

-- what an accepted packet adds to the record
abbrev pub adds : BlockReceiver → Packet → List Entry
adds fresh p = adds_first p
adds (expects e kept) p = adds_at (course_at e kept p.sequence) (distance p.sequence e) p

-- the receiver after an accepted packet
abbrev pub receiver_after : BlockReceiver → Packet → BlockReceiver
receiver_after fresh p = expects (next p.sequence) none
receiver_after (expects e kept) p = receiver_after_at (course_at e kept p.sequence) e kept p

-- the record of a list of accepted packets, each given to the receiver that the one before it left
abbrev pub record_from : BlockReceiver → List Packet → List Entry
record_from receiver [] = []
record_from receiver (p ∷ ps) = adds receiver p ++ record_from (receiver_after receiver p) ps

-- packet k as it is read
abbrev pub sent : BlockSender → ℕ → Packet
sent S k = record {
  sequence = wrapped (S.first + S.newest k);
  older = map S.block (range (S.oldest k) (S.newest k - S.oldest k));
  primary = S.block (S.newest k);
}

-- from packet to packet neither the oldest nor the newest block falls; a newest block may be that of the packet before
pub record InOrder (S : BlockSender) : Type 0 where
  pub oldest_le : (k : ℕ) → S.oldest k ≤ S.newest k
  pub oldest_rises : (k : ℕ) → S.oldest k ≤ S.oldest (suc k)
  pub newest_rises : (k : ℕ) → S.newest k ≤ S.newest (suc k)

-- the core of demand 3
abbrev pub Delivered : Type 0
Delivered = (S : BlockSender) → InOrder S → (ks : List ℕ) → Near S ks → record_from fresh (map (sent S) ks) ≡ expected_record S ks

-- packet k may carry the blocks from block j on; `oldest_of` is the least such j
pub record MayCarryFrom (R : ℕ) (time : ℕ → ℕ) (k j : ℕ) : Type 0 where
  pub own : j ≤ k  -- its own block is among them
  pub few : k - j ≤ R
  pub recent : (i : ℕ) → j ≤ i → i < k → time k ≤ time i + oldest_age
