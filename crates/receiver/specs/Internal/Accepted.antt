-- The step of an accepted packet, over its bytes and the packet as the reader hands it over.
use Rattle.std.specs.Prelude.{ℕ, suc, ◌-◌, cond, List, ℤ, pos}
use Rattle.packet.specs.declared.Packet.{Packet}
use Rattle.blocks.specs.Places.{start_of}
use Rattle.delivery.specs.Numbers.{next}
use Rattle.delivery.specs.Course.{Course, forward, late, jump, break, distance, course_of, is_kept, wanted, loss}
use Rattle.receiver_spec.specs.Distance.{signed}
use Rattle.receiver_spec.specs.State.{Receiver, kept_by, with_kept, keeping}
use Rattle.receiver_spec.specs.Step.{moved_to}
use Rattle.receiver_spec.specs.Answers.{Step, gives, is_break, is_jump, is_late}

-- the last w older blocks and the primary are given
abbrev pub followed : Receiver → List ℕ → Packet → ℕ → ℤ → ℕ → Step
followed r p k marks z w = record {
  receiver = moved_to r k.source k.sequence;
  answer = gives (record {
    loss = marks;
    distance = z;
    older = k.count;
    given = suc w;
    from = start_of p k (k.count - w);
    to = k.end;
  });
}

-- at distance d, which is z as a signed number
abbrev pub followed_at : Receiver → List ℕ → Packet → ℕ → ℤ → Step
followed_at r p k d z = followed r p k (loss d k.count) z (wanted d k.count)

-- a jump, and a break, which gives all blocks
abbrev pub jumped : Receiver → Packet → ℤ → Step
jumped r k z = record { receiver = keeping r (next k.sequence); answer = is_jump z }

abbrev pub broken : Receiver → Packet → Step
broken r k = record {
  receiver = moved_to r k.source k.sequence;
  answer = is_break (record { loss = 0; distance = pos 0; older = k.count; given = suc k.count; from = k.first; to = k.end });
}

-- a packet that is neither forward nor late
abbrev pub leapt : Receiver → Packet → ℤ → Step
leapt r k z = cond (is_kept (kept_by r) k.sequence) (broken r k) (jumped r k z)

abbrev pub later_by : Course → Receiver → List ℕ → Packet → ℕ → Step
later_by forward r p k d = followed_at r p k d (signed d)
later_by late r p k d = record { receiver = r; answer = is_late (signed d) }
later_by jump r p k d = jumped r k (signed d)
later_by break r p k d = broken r k

abbrev pub later_accepted : Receiver → List ℕ → Packet → ℕ → Step
later_accepted r p k d = later_by (course_of d (is_kept (kept_by r) k.sequence)) r p k d

abbrev pub accepted_step : Receiver → List ℕ → Packet → Step
accepted_step r p k = cond r.has_source (later_accepted r p k (distance k.sequence r.expected)) (followed r p k 0 (pos 0) k.count)

-- a packet that goes by its distance alone: as a forward one, but for the number kept, which stays
abbrev pub gave_step : Receiver → List ℕ → Packet → Step
gave_step r p k =
    let s = later_by forward r p k (distance k.sequence r.expected) in
    record { receiver = with_kept s.receiver r.has_kept r.kept; answer = s.answer }
