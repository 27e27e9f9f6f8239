-- What becomes of a packet that arrived, and of the one that is held (02, request 5).
use Rattle.std.specs.Prelude.{ℕ, ◌-◌, Bool, true, false, cond, not, ◌||◌, List, ltb, leb, eqb, pos, length}
use Rattle.std.proofs.Math.Option.{Option, none, some}
use Rattle.packet_spec.specs.Reading.{Content}
use Rattle.delivery.specs.Numbers.{next}
use Rattle.delivery.specs.Course.{distance, Course, forward, late, jump, break, course_at, loss}
use Rattle.receiver_spec.specs.Distance.{signed}
use Rattle.receiver_spec.specs.State.{Receiver, kept_by, with_kept, keeping, keeping_none}
use Rattle.receiver_spec.specs.Step.{moved_to, all_of, given_at}
use Rattle.holding_spec.specs.State.{HoldingReceiver}
use Rattle.holding_spec.specs.Answers.{Which, neither, held, new, chosen, HoldingAnswer, waits, is_late, is_jump, is_break, gives, HoldingStep}

-- "held for up to 1,000 ms of recorder clock"
abbrev pub longest_hold : ℕ
longest_hold = 1000

-- a packet that arrived: the clock of its arrival, its bytes, and what they hold
pub record Arrived : Type 0 where
  pub arrival : ℕ
  pub bytes : List ℕ
  pub content : Content

-- of the packet held: whether there is one, its number and its arrival, 0 where there is none
abbrev is_one : Option Arrived → Bool
is_one none = false
is_one (some x) = true

abbrev number_of : Option Arrived → ℕ
number_of none = 0
number_of (some x) = x.content.sequence

abbrev arrival_of : Option Arrived → ℕ
arrival_of none = 0
arrival_of (some x) = x.arrival

-- a receiver at clock t that holds this packet, or none
abbrev pub holding : Receiver → ℕ → Option Arrived → HoldingReceiver
holding r t h = record { receiver = r; has_held = is_one h; held = number_of h; arrival = arrival_of h; clock = t }

-- how far ahead of the next number to hand out
abbrev pub ahead : Receiver → Arrived → ℕ
ahead r x = distance x.content.sequence r.expected

abbrev pub would_lose : Receiver → Arrived → Bool
would_lose r x = ltb 0 (loss (ahead r x) (length x.content.older))

-- "its gap is closed or 1,000 ms have passed"
abbrev pub is_due : Receiver → ℕ → Arrived → Bool
is_due r t h = not (would_lose r h) || leb longest_hold (t - h.arrival)

-- "nearer to the newest"
abbrev pub is_nearer : Receiver → Arrived → Arrived → Bool
is_nearer r x h = ltb (ahead r x) (ahead r h)

-- whether the held packet has this one's number
abbrev pub is_held : Option Arrived → Arrived → Bool
is_held none x = false
is_held (some h) x = eqb x.content.sequence h.content.sequence

-- the one to keep where the held one stays
abbrev pub stays : Option Arrived → Which
stays none = neither
stays (some h) = held

-- receiver r at clock t, the packet that is held and the new one
module _ (r : Receiver) (t : ℕ) (h n : Option Arrived) where
  -- nothing is given
  abbrev pub keeps : (Which → HoldingAnswer) → Which → HoldingStep
  keeps answer keep = record { receiver = holding r t (chosen keep h n); answer = answer keep }

  -- x goes out "with its marks": the next number is expected behind it, and the number kept stays
  abbrev pub hands_out : Arrived → Which → Which → Bool → HoldingStep
  hands_out x of keep again = record {
    receiver = holding (with_kept (moved_to r x.content.source x.content.sequence) r.has_kept r.kept) t (chosen keep h n);
    answer = gives of keep again (given_at x.bytes x.content (ahead r x));
  }

module _ (r : Receiver) (t : ℕ) where
  -- a call without a packet "gives the held one .. otherwise nothing"
  abbrev pub waited : Option Arrived → HoldingStep
  waited none = keeps r t none none (waits (pos 0)) neither
  waited (some h) = cond (is_due r t h) (hands_out r t (some h) none h held neither false) (keeps r t (some h) none (waits (pos 0)) held)

  -- x, at this clock, behind the packet held
  module _ (x : Arrived) where
    -- it is held where it "would cause loss"; "while one is held" the nearer one goes out "and the other is kept"
    abbrev pub forward_arrives : Option Arrived → HoldingStep
    forward_arrives none = cond (would_lose r x) (keeps r t none (some x) (waits (signed (ahead r x))) new) (hands_out r t none (some x) x new neither false)
    forward_arrives (some h) = cond (is_nearer r x h) (hands_out r t (some h) (some x) x new held false) (hands_out r t (some h) (some x) h held new false)

    -- as without holding; but "a break sends the held one out, leaves the kept number and asks for the same packet again"
    abbrev pub break_arrives : Option Arrived → HoldingStep
    break_arrives none = record {
      receiver = holding (moved_to r x.content.source x.content.sequence) t none;
      answer = is_break (all_of x.bytes x.content);
    }
    break_arrives (some h) = hands_out r t (some h) (some x) h held neither true

-- "Forward packets clear the kept number on arrival"
abbrev pub by_course : Course → Receiver → ℕ → Arrived → Option Arrived → HoldingStep
by_course forward r t x h = forward_arrives (keeping_none r) t x h
by_course late r t x h = keeps r t h (some x) (is_late (signed (ahead r x))) (stays h)
by_course jump r t x h = keeps (keeping r (next x.content.sequence)) t h (some x) (is_jump (signed (ahead r x))) (stays h)
by_course break r t x h = break_arrives r t x h

-- "a packet with the held one's number is late"
abbrev pub later_arrives : Receiver → ℕ → Arrived → Option Arrived → HoldingStep
later_arrives r t x h =
    cond (is_held h x)
    (keeps r t h (some x) (is_late (signed (ahead r x))) (stays h))
    (by_course (course_at r.expected (kept_by r) x.content.sequence) r t x h)

-- the first packet gives all its blocks
abbrev pub first_arrives : Receiver → ℕ → Arrived → Option Arrived → HoldingStep
first_arrives r t x h = record {
  receiver = holding (moved_to r x.content.source x.content.sequence) t h;
  answer = gives new (stays h) false (all_of x.bytes x.content);
}

abbrev pub arrives : Receiver → ℕ → Arrived → Option Arrived → HoldingStep
arrives r t x h = cond r.has_source (later_arrives r t x h) (first_arrives r t x h)
