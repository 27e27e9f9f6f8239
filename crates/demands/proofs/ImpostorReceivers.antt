-- Readers and receivers that are wrong, each with the demand that it fails, by computing one case (01, "How the promises are to
-- be judged" and "Errors a bidder will be drawn to"). Each is our line with another call or two.
use Prim.Native.Nat.{ℕ, zero, suc, ◌-◌, ◌*◌}
use mathlib.Core.Path.{◌≡◌, refl, ap}
use mathlib.Core.List.{List, [], ◌∷◌, map}
use mathlib.Core.Bool.{true, false, cond}
use native.Mathlib.Omega.{arith}
use lib.Dec.{ltb}
use lib.IntN.{pos, negsuc}
use lib.ListN.{length, replicate}
use Rattle.base.specs.Checks.{checked}
use Rattle.packet_spec.specs.Limits.{level}
use Rattle.packet_spec.specs.Header.{Expected, Any}
use Rattle.packet_spec.specs.Redundancy.{Heads, heads, bad, headers, total, are_text}
use Rattle.packet_spec.specs.Reading.{Read, holds, refused, header_checks, heads_of, content, reading}
use Rattle.delivery.specs.Claim.{Near, expected_record}
use Rattle.delivery.specs.Run.{Rules, sender_of}
use Rattle.receiver_spec.specs.Opening as receiver
use Rattle.receiver_spec.specs.State.{Receiver}
use Rattle.receiver_spec.specs.Step.{step_of}
use Rattle.receiver_spec.specs.Answers.{Step, gives, is_break, is_jump, is_late, refuses, StepAnswer, Given}
use Rattle.receiver_spec.specs.Record.{record_of, accepted_of}
use Rattle.sender_spec.specs.State.{Settings}
use Rattle.sender_spec.specs.Settings.{settings_number}
use Rattle.sender_spec.specs.Calls as sender
use Rattle.sender_spec.specs.Calls.{offer_of, clock_of}
use Rattle.demands.specs.Line.{Line}
use Rattle.demands.specs.Ours.{ours}
use Rattle.demands.specs.LineTests.{redundant}
use Rattle.demands.specs.Rules.{KeepsRules}
use Rattle.demands.specs.Sending.{Call, offer, clock, Written, sent_by, left_by}
use Rattle.demands.specs.Demand1.{Demand1}
use Rattle.demands.specs.Demand2.{Demand2}
use Rattle.demands.specs.Demand3.{rules_of, packet_at, Demand3}
use Rattle.demands.proofs.Demand3.{ours_keeps}

-- whether a packet is read
abbrev pub number_of : Read → ℕ
number_of (holds c) = 0
number_of (refused n) = 1

-- at this level; the first sequence number is 65,535
abbrev pub settings : ℕ → Settings
settings R = record { level = R; buffering = 300; rate = 30; t140 = 98; red = 100; sequence = 65535; timestamp = 0; source = 7 }

abbrev pub space : List ℕ
space = replicate 100 0

-- `A`, `B` and `C`, each in a packet of its own, 300 ms apart
abbrev calls : List Call
calls = offer 0 (0x41 ∷ []) ∷ clock 0 space ∷ offer 300 (0x42 ∷ []) ∷ clock 300 space ∷ offer 600 (0x43 ∷ []) ∷ clock 600 space ∷ []

abbrev ws : List Written
ws = sent_by ours (settings 1) calls

abbrev packet : ℕ → List ℕ
packet = packet_at ws

keeps : KeepsRules 98 100 (rules_of (settings 1) ws (left_by ours (settings 1) calls).clock) packet
unfolding sender.open_sender settings_number level
keeps = ours_keeps (settings 1) calls refl

abbrev rules : Rules
rules = rules_of (settings 1) ws (left_by ours (settings 1) calls).clock

-- our line with another reader
abbrev with_read : (Expected → ℕ → ℕ → List ℕ → Read) → Line
with_read read = record {
  text = ours.text;
  read = read;
  block = ours.block;
  open_receiver = ours.open_receiver;
  step = ours.step;
  hand_out = ours.hand_out;
  open_holding = ours.open_holding;
  hold = ours.hold;
  hand_out_either = ours.hand_out_either;
  open_sender = ours.open_sender;
  offer = ours.offer;
  clock = ours.clock;
}

-- a reader that refuses everything: by the table's "only when", and by read-back
abbrev refusing : Line
refusing = with_read (λ e t140 red p. refused 10)

pub refuses_everything_fails : Demand1 refusing → ⊥
unfolding reading headers sender.open_sender settings_number offer_of clock_of level
refuses_everything_fails d = let z : ◌≡◌ {A = ℕ} 0 1 = ap number_of ((d.read_number Any 98 100 (packet 0) 10).0 refl) in omega arith

pub refuses_everything_reads_nothing_back : Demand2 refusing → ⊥
unfolding reading headers sender.open_sender settings_number offer_of clock_of level
refuses_everything_reads_nothing_back d = let z : ◌≡◌ {A = ℕ} 1 0 = ap number_of ((d.read_back (settings 1) calls refl).0.read Any tt) in omega arith

-- a reader that passes ages that do not fall to 1 or more: `A`, of 0 ms
abbrev of_any_age : List ℕ → Heads → Read
of_any_age p (bad n) = refused n
of_any_age p (heads hs s) = cond (ltb (length s) (total hs)) (refused 20) (cond (are_text hs s) (holds (content p hs s)) (refused 21))

abbrev any_age : Line
any_age = with_read (λ e t140 red p. checked refused (header_checks e t140 red p) (of_any_age p (heads_of level t140 p)))

pub any_age_fails : Demand2 any_age → ⊥
unfolding reading headers level
any_age_fails d =
    let p = redundant 0 9 (0xE2 ∷ 0x00 ∷ 0x00 ∷ 0x01 ∷ 0x62 ∷ 0x41 ∷ 0x42 ∷ []) in
    let z : ◌≡◌ {A = ℕ} 0 1 = ap number_of (d.reads Any 98 100 p) in
    omega arith

-- the headers of so many empty older blocks, and what lies behind them
abbrev olders : ℕ → List ℕ → List ℕ
olders zero s = s
olders (suc n) s = 0xE2 ∷ 0x00 ∷ 4 * suc n ∷ 0x00 ∷ olders n s

-- a reader of one older block more than the highest level
pub one_more_fails : Demand2 (with_read (reading (suc level))) → ⊥
unfolding reading headers level
one_more_fails d =
    let z : ◌≡◌ {A = ℕ} 0 1 = ap number_of (d.reads Any 98 100 (redundant 0 9 (olders (suc level) (0x62 ∷ [])))) in
    omega arith

-- and of one fewer
pub one_fewer_fails : Demand2 (with_read (reading (level - 1))) → ⊥
unfolding reading headers level
one_fewer_fails d =
    let z : ◌≡◌ {A = ℕ} 1 0 = ap number_of (d.reads Any 98 100 (redundant 0 9 (olders level (0x62 ∷ [])))) in
    omega arith

-- openings that always refuse
abbrev closed : Line
closed = record {
  text = ours.text;
  read = ours.read;
  block = ours.block;
  open_receiver = λ t140 red. receiver.receiver_refused 3;
  step = ours.step;
  hand_out = ours.hand_out;
  open_holding = ours.open_holding;
  hold = ours.hold;
  hand_out_either = ours.hand_out_either;
  open_sender = λ x. sender.sender_refused 1;
  offer = ours.offer;
  clock = ours.clock;
}

pub openings_refuse_fails : Demand1 closed → ⊥
openings_refuse_fails d = let z : ◌≡◌ {A = ℕ} 3 0 = d.receiver_number 98 100 in omega arith

pub sender_openings_refuse_fails : Demand1 closed → ⊥
unfolding level
sender_openings_refuse_fails d = let z : ◌≡◌ {A = ℕ} 1 0 = d.sender_number (settings 1) in omega arith

-- our line with another step
abbrev pub with_step : (Receiver → List ℕ → Step) → Line
with_step step = record {
  text = ours.text;
  read = ours.read;
  block = ours.block;
  open_receiver = ours.open_receiver;
  step = step;
  hand_out = ours.hand_out;
  open_holding = ours.open_holding;
  hold = ours.hold;
  hand_out_either = ours.hand_out_either;
  open_sender = ours.open_sender;
  offer = ours.offer;
  clock = ours.clock;
}

-- where packets of our sender arrive, the record has as many entries as the expected one
module _ (step : Receiver → List ℕ → Step) (d : Demand3 (with_step step)) where
  abbrev fresh : Receiver
  fresh = (receiver.open_receiver 98 100).receiver

  as_many : (ks : List ℕ) → accepted_of step fresh (map packet ks) ≡ map packet ks → Near (sender_of rules) ks
      → length (record_of step fresh (map packet ks)) ≡ length (expected_record (sender_of rules) ks)
  as_many ks accepted near = ap length (d.recorded 98 100 refl rules packet keeps (map packet ks) ks accepted near)

-- always one answer: packet 1 is lost, and packet 2's repeat of `B` is not given
abbrev fixed_answer : Receiver → List ℕ → Step
fixed_answer r p = record { receiver = r; answer = gives (record { loss = 0; distance = pos 0; older = 0; given = 1; from = 12; to = 12 }) }

pub fixed_answer_fails : Demand3 (with_step fixed_answer) → ⊥
unfolding step_of reading headers sender.open_sender settings_number offer_of clock_of level
fixed_answer_fails d = let z : ◌≡◌ {A = ℕ} 2 3 = as_many fixed_answer d (0 ∷ 2 ∷ []) refl (omega arith, omega arith, tt) in omega arith

-- does nothing: every packet is late
abbrev does_nothing : Receiver → List ℕ → Step
does_nothing r p = record { receiver = r; answer = is_late (negsuc 0) }

pub does_nothing_fails : Demand3 (with_step does_nothing) → ⊥
unfolding step_of reading headers sender.open_sender settings_number offer_of clock_of
does_nothing_fails d = let z : ◌≡◌ {A = ℕ} 0 1 = as_many does_nothing d (0 ∷ []) refl tt in omega arith

-- never moves: every packet is its first, and `A` is given twice
abbrev never_moves : Receiver → List ℕ → Step
never_moves r p = record { receiver = r; answer = (step_of r p).answer }

pub never_moves_fails : Demand3 (with_step never_moves) → ⊥
unfolding step_of reading headers sender.open_sender settings_number offer_of clock_of level
never_moves_fails d = let z : ◌≡◌ {A = ℕ} 3 2 = as_many never_moves d (0 ∷ 1 ∷ []) refl (omega arith, omega arith, tt) in omega arith

-- gives the first packet's text, and then says only "late"
abbrev late_for_ever : Receiver → List ℕ → Step
late_for_ever r p = cond r.has_source (record { receiver = r; answer = is_late (negsuc 0) }) (step_of r p)

pub late_for_ever_fails : Demand3 (with_step late_for_ever) → ⊥
unfolding step_of reading headers sender.open_sender settings_number offer_of clock_of level
late_for_ever_fails d = let z : ◌≡◌ {A = ℕ} 1 2 = as_many late_for_ever d (0 ∷ 1 ∷ []) refl (omega arith, omega arith, tt) in omega arith

-- another answer where a packet is forward
abbrev gives_by : (Given → Given) → Step → StepAnswer → Step
gives_by f s (refuses n) = s
gives_by f s (is_late z) = s
gives_by f s (is_jump z) = s
gives_by f s (is_break g) = s
gives_by f s (gives g) = record { receiver = s.receiver; answer = gives (f g) }

-- a made-up loss: one mark more than were lost
abbrev made_up_loss : Receiver → List ℕ → Step
made_up_loss r p =
    gives_by (λ g. record { loss = suc g.loss; distance = g.distance; older = g.older; given = g.given; from = g.from; to = g.to })
    (step_of r p) (step_of r p).answer

pub made_up_loss_fails : Demand3 (with_step made_up_loss) → ⊥
unfolding step_of reading headers sender.open_sender settings_number offer_of clock_of level
made_up_loss_fails d = let z : ◌≡◌ {A = ℕ} 2 1 = as_many made_up_loss d (0 ∷ []) refl tt in omega arith

-- all older blocks where d are missing: `A` is recorded again
abbrev all_older : Receiver → List ℕ → Step
all_older r p =
    gives_by (λ g. record { loss = g.loss; distance = g.distance; older = g.older; given = suc g.older; from = g.from; to = g.to })
    (step_of r p) (step_of r p).answer

pub all_older_fails : Demand3 (with_step all_older) → ⊥
unfolding step_of reading headers sender.open_sender settings_number offer_of clock_of level
all_older_fails d = let z : ◌≡◌ {A = ℕ} 3 2 = as_many all_older d (0 ∷ 1 ∷ []) refl (omega arith, omega arith, tt) in omega arith

-- 16 for ever after the first packet: demand 3 speaks of accepted packets alone, but the table's "only when" shuts it out
abbrev sixteen_for_ever : Receiver → List ℕ → Step
sixteen_for_ever r p = cond r.has_source (record { receiver = r; answer = refuses 16 }) (step_of r p)

pub sixteen_for_ever_fails : Demand1 (with_step sixteen_for_ever) → ⊥
unfolding step_of reading headers sender.open_sender settings_number offer_of clock_of level
sixteen_for_ever_fails d =
    let r : Receiver = record { t140 = 98; red = 100; has_source = true; source = 7; expected = 0; has_kept = false; kept = 0 } in
    let q = (d.step_number r (packet 1) 16).0 refl in
    let z : ◌≡◌ {A = ℕ} 0 1 = ap number_of q in
    omega arith
