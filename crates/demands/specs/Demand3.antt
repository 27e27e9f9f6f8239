-- Demand 3, whole: the record, for any sender that keeps the sending rules; and ours is one.
use Rattle.std.specs.Prelude.{ℕ, ◌+◌, ◌≤◌, ◌≡◌, List, [], ◌∷◌, map, Bool, true, false, get_or}
use Rattle.std.proofs.Math.Option.{Option}
use Rattle.packet_spec.specs.Redundancy.{joined}
use Rattle.delivery.specs.Record.{block}
use Rattle.delivery.specs.Claim.{Near, expected_record}
use Rattle.delivery.specs.Run.{Rules, sender_of}
use Rattle.receiver_spec.specs.State.{Receiver}
use Rattle.receiver_spec.specs.Record.{blocks_given, record_of, accepted_of}
use Rattle.holding_spec.specs.State.{HoldingReceiver}
use Rattle.holding_spec.specs.Record as held
use Rattle.holding_spec.specs.Record.{new_bytes}
use Rattle.holding_spec.specs.Claim.{nothing_yet, HandsOut}
use Rattle.sender_spec.specs.State.{Settings}
use Rattle.demands.specs.Line.{Line}
use Rattle.demands.specs.Sending.{Call, Written, primary_sent, sent_by, left_by}
use Rattle.demands.specs.Rules.{KeepsRules}

-- the rules that packets were sent by: block k is the primary of packet k, time k the clock of its call; past the last packet
-- blocks are empty, at this clock
abbrev pub rules_of : Settings → List Written → ℕ → Rules
rules_of x ws latest = record {
  level = x.level;
  first = x.sequence;
  block = λ k. get_or (map primary_sent ws) k [];
  time = λ k. get_or (map (λ w. w.time) ws) k latest;
}

-- the bytes of packet k; past the last packet none, which the reader refuses
abbrev pub packet_at : List Written → ℕ → List ℕ
packet_at ws k = get_or (map (λ w. w.packet) ws) k []

-- each packet leaves at least the buffering time after the one before it, if there is one
abbrev pub SpacedAfter : Bool → ℕ → ℕ → List Written → Type 0
SpacedAfter before last b [] = Unit {0}
SpacedAfter before last b (w ∷ ws) = (before ≡ true → last + b ≤ w.time) × SpacedAfter true w.time b ws

-- packets given once each and in order to a receiver: all are accepted, and the record is their primaries, with no mark
pub record Arrives (l : Line) (r : Receiver) (ws : List Written) : Type 0 where
  pub accepted : accepted_of l.step r (map (λ w. w.packet) ws) ≡ map (λ w. w.packet) ws
  pub record_is : record_of l.step r (map (λ w. w.packet) ws) ≡ map block (map primary_sent ws)

pub record Demand3 (l : Line) : Type 0 where
  -- whatever list of packets is given to the receiver of an accepted opening, refused ones included: where the accepted ones are
  -- copies of the packets ks of a sender that keeps the rules, each near the newest accepted before it, the record is the
  -- expected one
  pub recorded : (t140 red : ℕ) → (l.open_receiver t140 red).number ≡ 0
      → (rules : Rules) (packet : ℕ → List ℕ) → KeepsRules t140 red rules packet
      → (given : List (List ℕ)) (ks : List ℕ) → accepted_of l.step (l.open_receiver t140 red).receiver given ≡ map packet ks → Near (sender_of rules) ks
      → record_of l.step (l.open_receiver t140 red).receiver given ≡ expected_record (sender_of rules) ks
  -- at every step the bytes of the blocks given, joined, are the text handed out
  pub text : (r : Receiver) (p : List ℕ) → l.hand_out p (l.step r p).answer ≡ joined (blocks_given r p (l.step r p).answer)
  -- with holding: whatever calls are made on the receiver that holds of an accepted opening, refused ones and those without a packet
  -- included: where they hand out the packets ks of a sender that keeps the rules, the record is the expected one of these
  pub holding : (t140 red : ℕ) → (l.open_holding t140 red).number ≡ 0
      → (rules : Rules) (packet : ℕ → List ℕ) → KeepsRules t140 red rules packet
      → (calls : List held.Call) (ks : List ℕ) → HandsOut (sender_of rules) packet l.hold nothing_yet (l.open_holding t140 red).receiver calls ks
      → held.record_of l.hold (l.open_holding t140 red).receiver calls ≡ expected_record (sender_of rules) ks
  pub holding_text : (s : HoldingReceiver) (t : ℕ) (lent : List ℕ) (p : Option (List ℕ))
      → l.hand_out_either lent (new_bytes p) (l.hold s t lent p).answer ≡ joined (held.blocks_given s (record { clock = t; lent = lent; packet = p }) (l.hold s t lent p).answer)
  -- after every list of offers and clock calls, refused ones included, from an accepted opening, our sender keeps the rules,
  pub keeps : (x : Settings) (calls : List Call) → (l.open_sender x).number ≡ 0
      → KeepsRules x.t140 x.red (rules_of x (sent_by l x calls) (left_by l x calls).clock) (packet_at (sent_by l x calls))
  pub spaced : (x : Settings) (calls : List Call) → (l.open_sender x).number ≡ 0 → SpacedAfter false 0 x.buffering (sent_by l x calls)
  -- and with nothing lost, what it sent arrives: by demand 2 the texts offered, less what still waits
  pub arrives : (x : Settings) (calls : List Call) → (l.open_sender x).number ≡ 0 → Arrives l (l.open_receiver x.t140 x.red).receiver (sent_by l x calls)
