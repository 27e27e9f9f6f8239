-- A receiver, the checks of its opening, and how it reads a packet.
use Rattle.std.specs.Prelude.{ℕ, List, [], ◌∷◌, Bool, true, false, cond}
use Rattle.std.proofs.Math.Option.{Option, none, some}
use Rattle.base.specs.Checks.{Check, ◌gives◌}
use Rattle.packet_spec.specs.Limits.{level}
use Rattle.packet_spec.specs.Header.{Expected, Any, Only, types_bad}
use Rattle.packet_spec.specs.Reading.{Read, reading}

-- the payload types; the source, once the first packet was accepted; the sequence number that is expected next; and the number
-- that a jump kept, if one is kept
pub record Receiver : Type 0 where
  pub t140 : ℕ
  pub red : ℕ
  pub has_source : Bool
  pub source : ℕ
  pub expected : ℕ
  pub has_kept : Bool
  pub kept : ℕ

abbrev pub fresh_receiver : ℕ → ℕ → Receiver
fresh_receiver t140 red = record { t140 = t140; red = red; has_source = false; source = 0; expected = 0; has_kept = false; kept = 0 }

abbrev pub zero_receiver : Receiver
zero_receiver = fresh_receiver 0 0

-- check 3 alone
abbrev pub opening_checks : ℕ → ℕ → List Check
opening_checks t140 red = types_bad t140 red gives 3 ∷ []

-- any source before the first accepted packet, then only its source
abbrev pub source_expected : Receiver → Expected
source_expected r = cond r.has_source (Only r.source) Any

-- the number kept, if one is
abbrev pub kept_by : Receiver → Option ℕ
kept_by r = cond r.has_kept (some r.kept) none

-- the receiver with this number kept, and with none
abbrev pub with_kept : Receiver → Bool → ℕ → Receiver
with_kept r has n = record {
  t140 = r.t140;
  red = r.red;
  has_source = r.has_source;
  source = r.source;
  expected = r.expected;
  has_kept = has;
  kept = n;
}

abbrev pub keeping : Receiver → ℕ → Receiver
keeping r n = with_kept r true n

abbrev pub keeping_none : Receiver → Receiver
keeping_none r = with_kept r false 0

-- a packet as the step reads it: 3 on the types held, 10 to 15, 16, 17 to 20, 22, 21
abbrev pub read_by : Receiver → List ℕ → Read
read_by r p = reading level (source_expected r) r.t140 r.red p
