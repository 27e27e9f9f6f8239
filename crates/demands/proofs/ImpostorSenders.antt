-- Senders that are wrong, each with the demand that it fails, by computing one list of calls. Each is our line with another
-- offer or clock call.
use Prim.Native.Nat.{ℕ, zero, suc, ◌-◌}
use mathlib.Core.Path.{◌≡◌, refl, ap}
use mathlib.Core.List.{List, [], ◌∷◌, ◌++◌, map}
use mathlib.Core.Bool.{Bool, true, false}
use native.Mathlib.Omega.{arith}
use lib.ListN.{length}
use Rattle.packet_spec.specs.Limits.{level}
use Rattle.packet_spec.specs.Redundancy.{headers}
use Rattle.packet_spec.specs.Reading.{reading}
use Rattle.sender_spec.specs.State.{Settings, SentBlock, Progress, Sender}
use Rattle.sender_spec.specs.Answers as answers
use Rattle.sender_spec.specs.Answers.{CallResult, ClockAnswer, ClockResult}
use Rattle.sender_spec.specs.Settings.{settings_number}
use Rattle.sender_spec.specs.Calls as sender
use Rattle.sender_spec.specs.Offering.{sender_with}
use Rattle.sender_spec.specs.Calls.{offer_of, clock_of, clock_quiet}
use Rattle.demands.specs.Line.{Line}
use Rattle.demands.specs.Ours.{ours}
use Rattle.demands.specs.Sending.{Call, offer, clock}
use Rattle.demands.specs.Demand2.{Demand2}
use Rattle.demands.specs.Demand3.{Demand3}
use Rattle.demands.proofs.ImpostorReceivers.{settings, space}

-- our line with other offers and clock calls
abbrev pub with_sender : (Sender → ℕ → List ℕ → CallResult) → (Sender → ℕ → List ℕ → ClockResult) → Line
with_sender offers clocks = record {
  text = ours.text;
  read = ours.read;
  block = ours.block;
  open_receiver = ours.open_receiver;
  step = ours.step;
  hand_out = ours.hand_out;
  open_holding = ours.open_holding;
  hold = ours.hold;
  hand_out_either = ours.hand_out_either;
  open_sender = ours.open_sender;
  offer = offers;
  clock = clocks;
}

-- always quiet
abbrev always_quiet : Line
always_quiet = with_sender offer_of clock_quiet

abbrev is_sent : ClockAnswer → ℕ
is_sent (answers.refused n) = 0
is_sent answers.quiet = 0
is_sent (answers.sent n) = 1

pub always_quiet_fails : Demand2 always_quiet → ⊥
unfolding sender.open_sender settings_number offer_of level
always_quiet_fails d =
    let s : Sender = sender_with (sender.open_sender (settings 1)).sender 0 (0x41 ∷ []) in
    let z : ◌≡◌ {A = ℕ} 0 1 = ap is_sent (d.writes_when_due s 0 space refl refl (omega arith)).0 in
    omega arith

-- what waits is deleted where a clock call is quiet: `A` leaves at 0, `B` is offered at 1, and at 2 nothing is due
abbrev deleted_by : Sender → ClockResult → ClockAnswer → ClockResult
deleted_by s r (answers.refused n) = r
deleted_by s r (answers.sent n) = r
deleted_by s r answers.quiet = record {
  answer = answers.quiet;
  sender = record { settings = s.settings; clock = r.sender.clock; waiting = []; characters = 0; since = 0; kept = s.kept; times = s.times; progress = s.progress };
  lent = r.lent;
}

abbrev deleting : Line
deleting = with_sender offer_of (λ s t p. deleted_by s (clock_of s t p) (clock_of s t p).answer)

pub deleting_fails : Demand2 deleting → ⊥
unfolding sender.open_sender settings_number offer_of clock_of level
deleting_fails d =
    let calls = offer 0 (0x41 ∷ []) ∷ clock 0 space ∷ offer 1 (0x42 ∷ []) ∷ clock 2 space ∷ [] in
    let z : ◌≡◌ {A = ℕ} 1 2 = ap length (d.as_typed (settings 1) calls refl) in
    omega arith

-- an offer is kept twice
abbrev twice_by : Sender → ℕ → List ℕ → CallResult → ℕ → CallResult
twice_by s t x r zero = record { number = 0; sender = sender_with s t (x ++ x) }
twice_by s t x r (suc n) = r

abbrev kept_twice : Line
kept_twice = with_sender (λ s t x. twice_by s t x (offer_of s t x) (offer_of s t x).number) clock_of

pub kept_twice_fails : Demand2 kept_twice → ⊥
unfolding sender.open_sender settings_number offer_of level
kept_twice_fails d = let z : ◌≡◌ {A = ℕ} 2 1 = ap length (d.as_typed (settings 1) (offer 0 (0x41 ∷ []) ∷ []) refl) in omega arith

-- a sender with other settings, kept blocks and progress
abbrev like : Sender → Settings → List SentBlock → Progress → Sender
like s x kept progress = record {
  settings = x;
  clock = s.clock;
  waiting = s.waiting;
  characters = s.characters;
  since = s.since;
  kept = kept;
  times = s.times;
  progress = progress;
}

-- writes as a sender of another level
abbrev at_level : ℕ → Settings → Settings
at_level R x = record { level = R; buffering = x.buffering; rate = x.rate; t140 = x.t140; red = x.red; sequence = x.sequence; timestamp = x.timestamp; source = x.source }

abbrev back_to : Settings → ClockResult → ClockResult
back_to x r = record { answer = r.answer; sender = like r.sender x r.sender.kept r.sender.progress; lent = r.lent }

abbrev writing_at : (ℕ → ℕ) → Line
writing_at other = with_sender offer_of (λ s t p. back_to s.settings (clock_of (like s (at_level (other s.settings.level) s.settings) s.kept s.progress) t p))

abbrev two_packets : List Call
two_packets = offer 0 (0x41 ∷ []) ∷ clock 0 space ∷ offer 300 (0x42 ∷ []) ∷ clock 300 space ∷ []

-- repeats one block more than its level says: at R 0 packet 1 repeats `A`
pub past_level_fails : Demand3 (writing_at suc) → ⊥
unfolding reading headers sender.open_sender settings_number offer_of clock_of level
past_level_fails d =
    let z : ◌≡◌ {A = ℕ} 1 0 = ap length ((d.keeps (settings 0) two_packets refl).reads 1 _ refl).older in
    omega arith

-- one fewer: at R 1 packet 1 repeats nothing
pub short_of_level_fails : Demand3 (writing_at (λ n. n - 1)) → ⊥
unfolding reading headers sender.open_sender settings_number offer_of clock_of level
short_of_level_fails d =
    let z : ◌≡◌ {A = ℕ} 0 1 = ap length ((d.keeps (settings 1) two_packets refl).reads 1 _ refl).older in
    omega arith

-- ages are not tested: kept blocks pass for ones sent 1 ms ago; `A`, sent at 0, is repeated at 16,384
abbrev renewed : ℕ → List SentBlock → List SentBlock
renewed t bs = map (λ (b : SentBlock). record { text = b.text; at = t - 1 }) bs

abbrev ageless : Line
ageless = with_sender offer_of (λ s t p. clock_of (like s s.settings (renewed t s.kept) s.progress) t p)

pub ageless_fails : Demand3 ageless → ⊥
unfolding reading headers sender.open_sender settings_number offer_of clock_of level
ageless_fails d =
    let calls = offer 0 (0x41 ∷ []) ∷ clock 0 space ∷ clock 16384 space ∷ [] in
    let z : ◌≡◌ {A = ℕ} 1 0 = ap length ((d.keeps (settings 1) calls refl).reads 1 _ refl).older in
    omega arith

-- does not wait: the last packet passes for one sent at 0; `A` and `B` both leave at 300, and packet 1 repeats `A` as 0 ms old
abbrev last_at_zero : Progress → Progress
last_at_zero p = record { sent = p.sent; last = 0; last_text = p.last_text; next = p.next }

abbrev hasty : Line
hasty = with_sender offer_of (λ s t p. clock_of (like s s.settings s.kept (last_at_zero s.progress)) t p)

pub hasty_fails : Demand2 hasty → ⊥
unfolding sender.open_sender settings_number offer_of clock_of level
hasty_fails d =
    let calls = offer 300 (0x41 ∷ []) ∷ clock 300 space ∷ offer 300 (0x42 ∷ []) ∷ clock 300 space ∷ [] in
    let e : ◌≡◌ {A = Bool} false true = (d.ages_fall (settings 1) calls refl).1.0 in
    let z : ◌≡◌ {A = ℕ} 0 1 = cc in
    omega arith
