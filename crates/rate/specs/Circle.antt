-- The times of the last characters in a circle of slots, the first n of a lent log.
use Rattle.std.specs.Prelude.{ℕ, zero, suc, ◌+◌, ◌-◌, ◌*◌, min, List, map, cond, ltb, get_or, set}
use Rattle.delivery.specs.Sending.{range}
use Rattle.sender_spec.specs.Limits.{highest_rate}
use Rattle.circle.specs.Circle as Places
use Rattle.circle.specs.Circle.{place}
use Rattle.rate.specs.declared.Pace.{Pace}

-- one for each character that a window may have
abbrev pub slots_of : ℕ → ℕ
slots_of rate = 10 * min rate highest_rate

-- the size of the lent log
abbrev pub log_size : ℕ
log_size = slots_of highest_rate

-- the next slot; 0 where the number is none of a slot
abbrev pub slot_at : ℕ → ℕ → ℕ
slot_at n next = place n next

-- the slot j + 1 before
abbrev pub slot_back : ℕ → ℕ → ℕ → ℕ
slot_back n at j = cond (ltb j at) (at - 1 - j) (at + n - 1 - j)

-- so many times, newest first
abbrev pub times_back : ℕ → List ℕ → ℕ → ℕ → List ℕ
times_back n log at m = map (λ j. get_or log (slot_back n at j) 0) (range 0 m)

abbrev pub times_in : ℕ → List ℕ → ℕ → ℕ → List ℕ
times_in n log next used = times_back n log (slot_at n next) (min used n)

-- a place that is at most a whole circle further than a slot
abbrev pub around : ℕ → ℕ → ℕ
around n at = Places.around n at

-- k slots in a row
abbrev pub spent_from : ℕ → List ℕ → ℕ → ℕ → ℕ → List ℕ
spent_from n log at t zero = log
spent_from n log at t (suc k) = spent_from n (set log at t) (around n (at + 1)) t k

-- behind k characters that left at t; more than n count as n
abbrev pub spent_in : ℕ → List ℕ → ℕ → ℕ → ℕ → List ℕ
spent_in n log next t k = spent_from n log (slot_at n next) t (min k n)

abbrev pub next_after : ℕ → ℕ → ℕ → ℕ
next_after n next k = around n (slot_at n next + min k n)

abbrev pub used_after : ℕ → ℕ → ℕ → ℕ
used_after n used k = min (used + k) n

abbrev pub pace_after : Pace → ℕ → ℕ → Pace
pace_after p rate k = record { next = next_after (slots_of rate) p.next k; used = used_after (slots_of rate) p.used k }
