-- Demand 1: any bytes, any clock value and any settings get an answer; a bad call gets the number of the table, the sender or
-- receiver comes back unchanged, and no lent byte is altered.
use Rattle.std.specs.Prelude.{ℕ, suc, ◌<◌, ◌≡◌, List, ◌↔◌, true, false, length}
use Rattle.std.proofs.Math.Option.{Option, none, some}
use Rattle.base.specs.Checks.{number_by}
use Rattle.packet_spec.specs.Limits.{level}
use Rattle.packet_spec.specs.Header.{Expected}
use Rattle.packet_spec.specs.Reading.{refused, reading}
use Rattle.receiver_spec.specs.State.{opening_checks, zero_receiver, fresh_receiver, Receiver, source_expected, read_by}
use Rattle.receiver_spec.specs.Answers.{refuses}
use Rattle.holding_spec.specs.State.{HoldingReceiver, fresh_holding, zero_holding, holding_checks}
use Rattle.holding_spec.specs.Answers as holding
use Rattle.holding_spec.specs.Answers.{was_refused}
use Rattle.sender_spec.specs.State.{Settings, Sender, fresh_sender, zero_sender}
use Rattle.sender_spec.specs.Answers as answers
use Rattle.sender_spec.specs.Settings.{settings_checks}
use Rattle.sender_spec.specs.Offering.{offer_checks}
use Rattle.sender_spec.specs.Packets.{due, packet_bytes}
use Rattle.sender_spec.specs.Clocking.{clock_checks}
use Rattle.demands.specs.Line.{Line}

-- "only keeps t": every other field of a sender is as it was
pub record OnlyClock (s : Sender) (t : ℕ) (s' : Sender) : Type 0 where
  pub clock : s'.clock ≡ t
  pub settings : s'.settings ≡ s.settings
  pub waiting : s'.waiting ≡ s.waiting
  pub characters : s'.characters ≡ s.characters
  pub since : s'.since ≡ s.since
  pub kept : s'.kept ≡ s.kept
  pub times : s'.times ≡ s.times
  pub progress : s'.progress ≡ s.progress

pub record Demand1 (l : Line) : Type 0 where
  -- openings: where no check applies the receiver or sender is fresh, else it is all zeros
  pub receiver_number : (t140 red : ℕ) → (l.open_receiver t140 red).number ≡ number_by (opening_checks t140 red)
  pub receiver_opened : (t140 red : ℕ) → (l.open_receiver t140 red).number ≡ 0 → (l.open_receiver t140 red).receiver ≡ fresh_receiver t140 red
  pub receiver_refused : (t140 red n : ℕ) → (l.open_receiver t140 red).number ≡ suc n → (l.open_receiver t140 red).receiver ≡ zero_receiver
  pub holding_number : (t140 red : ℕ) → (l.open_holding t140 red).number ≡ number_by (opening_checks t140 red)
  pub holding_opened : (t140 red : ℕ) → (l.open_holding t140 red).number ≡ 0 → (l.open_holding t140 red).receiver ≡ fresh_holding t140 red
  pub holding_refused : (t140 red n : ℕ) → (l.open_holding t140 red).number ≡ suc n → (l.open_holding t140 red).receiver ≡ zero_holding
  pub sender_number : (x : Settings) → (l.open_sender x).number ≡ number_by (settings_checks x)
  pub sender_opened : (x : Settings) → (l.open_sender x).number ≡ 0 → (l.open_sender x).sender ≡ fresh_sender x
  pub sender_refused : (x : Settings) (n : ℕ) → (l.open_sender x).number ≡ suc n → (l.open_sender x).sender ≡ zero_sender
  -- a packet by itself is refused where the table says so, and only there
  pub read_number : (e : Expected) (t140 red : ℕ) (p : List ℕ) (n : ℕ) → (l.read e t140 red p ≡ refused n) ↔ (reading level e t140 red p ≡ refused n)
  -- so is one given to a receiver, which then is as it came in
  pub step_number : (r : Receiver) (p : List ℕ) (n : ℕ) → ((l.step r p).answer ≡ refuses n) ↔ (reading level (source_expected r) r.t140 r.red p ≡ refused n)
  pub step_refused : (r : Receiver) (p : List ℕ) (n : ℕ) → (l.step r p).answer ≡ refuses n → (l.step r p).receiver ≡ r
  -- a receiver that holds: 3, 5 and 27 in this order, then what the table says of the packet, if there is one; refused, the receiver is
  -- as it came in, its clock too
  pub hold_number : (s : HoldingReceiver) (t : ℕ) (lent : List ℕ) (p : Option (List ℕ)) (n : ℕ) → number_by (holding_checks s t lent) ≡ suc n
      → (l.hold s t lent p).answer ≡ holding.refuses (suc n)
  pub hold_packet : (s : HoldingReceiver) (t : ℕ) (lent p : List ℕ) (n : ℕ) → number_by (holding_checks s t lent) ≡ 0
      → ((l.hold s t lent (some p)).answer ≡ holding.refuses n) ↔ (read_by s.receiver p ≡ refused n)
  pub hold_wait : (s : HoldingReceiver) (t : ℕ) (lent : List ℕ) → number_by (holding_checks s t lent) ≡ 0 → was_refused (l.hold s t lent none).answer ≡ false
  pub hold_refused : (s : HoldingReceiver) (t : ℕ) (lent : List ℕ) (p : Option (List ℕ)) → was_refused (l.hold s t lent p).answer ≡ true
      → (l.hold s t lent p).receiver ≡ s
  -- an offer: where it is refused the sender is as it came in
  pub offer_number : (s : Sender) (t : ℕ) (x : List ℕ) → (l.offer s t x).number ≡ number_by (offer_checks s t x)
  pub offer_refused : (s : Sender) (t : ℕ) (x : List ℕ) (n : ℕ) → (l.offer s t x).number ≡ suc n → (l.offer s t x).sender ≡ s
  -- a clock call: behind its checks it is quiet where nothing is due, and 8 where the space is too short
  pub clock_number : (s : Sender) (t : ℕ) (p : List ℕ) (n : ℕ) → number_by (clock_checks s t) ≡ suc n → (l.clock s t p).answer ≡ answers.refused (suc n)
  pub clock_not_due : (s : Sender) (t : ℕ) (p : List ℕ) → number_by (clock_checks s t) ≡ 0 → due s t ≡ false → (l.clock s t p).answer ≡ answers.quiet
  pub clock_space : (s : Sender) (t : ℕ) (p : List ℕ) → number_by (clock_checks s t) ≡ 0 → due s t ≡ true → length p < length (packet_bytes s t)
      → (l.clock s t p).answer ≡ answers.refused 8
  -- refused, the sender is as it came in; quiet, it keeps the clock alone; in both no lent byte is altered
  pub clock_refused : (s : Sender) (t : ℕ) (p : List ℕ) (n : ℕ) → (l.clock s t p).answer ≡ answers.refused n → ((l.clock s t p).sender ≡ s) × ((l.clock s t p).lent ≡ p)
  pub clock_quiet : (s : Sender) (t : ℕ) (p : List ℕ) → (l.clock s t p).answer ≡ answers.quiet → OnlyClock s t (l.clock s t p).sender × ((l.clock s t p).lent ≡ p)
  -- a zero receiver answers 3 to every call, a zero sender 2
  pub zero_receiver_refuses : (p : List ℕ) → (l.step zero_receiver p).answer ≡ refuses 3
  pub zero_holding_refuses : (t : ℕ) (lent : List ℕ) (p : Option (List ℕ)) → (l.hold zero_holding t lent p).answer ≡ holding.refuses 3
  pub zero_offer : (t : ℕ) (x : List ℕ) → (l.offer zero_sender t x).number ≡ 2
  pub zero_clock : (t : ℕ) (p : List ℕ) → (l.clock zero_sender t p).answer ≡ answers.refused 2
