-- The step by the reader's answer.
use Rattle.std.proofs.Common.{◌≡◌, ℕ, suc, ◌+◌, ◌-◌, ◌≤◌, Bool, true, false, cond, List, length, take, drop, ℤ, pos, sym, refl, ap, ◌∙◌, arith, length-append, le-ltb}
use Rattle.std.specs.Prelude.{Ok, Err}
use Rattle.packet.specs.declared.Packet.{Packet}
use Rattle.packet.specs.declared.Refusal.{Refusal}
use Rattle.packet_spec.specs.Limits.{level}
use Rattle.packet_spec.specs.Header.{payload_end}
use Rattle.packet_spec.specs.Redundancy.{joined}
use Rattle.packet_spec.specs.Reading.{Content, holds, reading, blocks, starts_at}
use Rattle.packet.specs.Refusal.{number}
use Rattle.packet.specs.Places.{numbered, placed, read_of}
use Rattle.blocks.specs.Places.{start_of}
use Rattle.delivery.specs.Course.{Course, forward, late, jump, break, distance, course_of, is_kept, course_at, wanted, loss}
use Rattle.delivery.specs.Record.{last_of}
use Rattle.receiver_spec.specs.State.{Receiver, kept_by, with_kept, source_expected}
use Rattle.receiver_spec.specs.Distance.{signed}
use Rattle.receiver_spec.specs.Step.{moved_to, given_from, given_at, all_of, step_read, first_step, step_by, step_of}
use Rattle.receiver_spec.specs.Answers.{Step, gives, is_break, refuses}
use Rattle.receiver.specs.Internal.Accepted.{followed, jumped, broken, leapt, later_by, later_accepted, accepted_step, gave_step}
use Rattle.receiver.specs.Internal.Read.{read_step, read_given}
use Rattle.packet_spec.proofs.RefusalNumbers.{reading_positive}
use Rattle.packet_spec.proofs.BlockRuns.{reach, joined_split}
use Rattle.packet_spec.proofs.BlocksLie.{Lies, lies, few, blocks_length}
use Rattle.packet_spec.proofs.HeadersTell.{Headed, headed}
use Rattle.blocks.proofs.BlockPlaces.{start_at}
use Rattle.reader.proofs.AnswerToReading.{was_refused_lem, was_accepted}

module _ (r : Receiver) (p : List ℕ) (k : Packet) where
  pub later_step : r.has_source ≡ true → later_accepted r p k (distance k.sequence r.expected) ≡ accepted_step r p k
  later_step e = sym (ap (λ (h : Bool). cond h (later_accepted r p k (distance k.sequence r.expected)) (followed r p k 0 (pos 0) k.count)) e)

  pub first_step_lem : r.has_source ≡ false → followed r p k 0 (pos 0) k.count ≡ accepted_step r p k
  first_step_lem e = sym (ap (λ (h : Bool). cond h (later_accepted r p k (distance k.sequence r.expected)) (followed r p k 0 (pos 0) k.count)) e)

  -- far from the expected number: a break or a jump
  pub leapt_step : (d : ℕ) → course_of d (is_kept (kept_by r) k.sequence) ≡ cond (is_kept (kept_by r) k.sequence) break jump → leapt r k (signed d) ≡ later_accepted r p k d
  leapt_step d v = go (is_kept (kept_by r) k.sequence) ∙ sym (ap (λ (c : Course). later_by c r p k d) v)
    where
      go : (b : Bool) → cond b (broken r k) (jumped r k (signed d)) ≡ later_by (cond b break jump) r p k d
      go true = refl
      go false = refl

-- over the places of a content
module _ (r : Receiver) (p : List ℕ) (c : Content) (l : Lies p c) (t : Headed p c) where
  -- the last w older blocks start where their bytes and the primary's reach back to
  starts : (w : ℕ) → w ≤ length c.older → start_of p (placed p c) (length c.older - w) ≡ payload_end p - length (joined (last_of (suc w) (blocks c)))
  starts w h =
      let bs = blocks c in
      let n = length c.older in
      let b : length bs ≡ suc n = blocks_length c.older c.primary in
      let k : length bs - suc w ≡ n - w = omega arith in
      let s : length (joined bs) ≡ reach bs (n - w) + length (joined (drop (n - w) bs)) = ap length (joined_split (n - w) bs) ∙ length-append (joined (take (n - w) bs)) (joined (drop (n - w) bs)) in
      let room : length (joined bs) ≤ payload_end p = l.room in
      let f : starts_at p c 0 + reach bs (n - w) ≡ payload_end p - length (joined (drop (n - w) bs)) = omega arith in
      start_at p c l t (n - w) (omega arith) ∙ f ∙ ap (λ (i : ℕ). payload_end p - length (joined (drop i bs))) (sym k)

  follows : (marks : ℕ) (z : ℤ) (w : ℕ) → w ≤ length c.older → followed r p (placed p c) marks z w ≡ record { receiver = moved_to r c.source c.sequence; answer = gives (given_from p c marks z w) }
  follows marks z w h = ap (λ (from : ℕ). record { receiver = moved_to r c.source c.sequence; answer = gives (record { loss = marks; distance = z; older = length c.older; given = suc w; from = from; to = payload_end p }) }) (starts w h)

  breaks : broken r (placed p c) ≡ record { receiver = moved_to r c.source c.sequence; answer = is_break (all_of p c) }
  breaks =
      let n = length c.older in
      let none : n - n ≡ 0 = omega arith in
      ap (λ (from : ℕ). record { receiver = moved_to r c.source c.sequence; answer = is_break (record { loss = 0; distance = pos 0; older = n; given = suc n; from = from; to = payload_end p }) })
      (ap (start_of p (placed p c)) (sym none) ∙ starts n (omega arith))

  same_step : accepted_step r p (placed p c) ≡ step_read r p (holds c)
  same_step = by r.has_source (course_at r.expected (kept_by r) c.sequence)
    where
      d : ℕ
      d = distance c.sequence r.expected

      n : ℕ
      n = length c.older

      by : (h : Bool) (v : Course) → cond h (later_by v r p (placed p c) d) (followed r p (placed p c) 0 (pos 0) n) ≡ cond h (step_by v r p c d) (first_step r p c)
      by true forward = follows (loss d n) (signed d) (wanted d n) (omega arith)
      by true late = refl
      by true jump = refl
      by true break = breaks
      by false v = follows 0 (pos 0) n (omega arith)

  -- and one that goes by its distance alone
  gives_step : gave_step r p (placed p c) ≡ record {
    receiver = with_kept (moved_to r c.source c.sequence) r.has_kept r.kept;
    answer = gives (given_at p c (distance c.sequence r.expected));
  }
  gives_step =
      let d = distance c.sequence r.expected in
      ap (λ (s : Step). record { receiver = with_kept s.receiver r.has_kept r.kept; answer = s.answer })
      (follows (loss d (length c.older)) (signed d) (wanted d (length c.older)) (omega arith))

  -- a packet that was read before
  module _ (small : length c.older ≤ level) where
    pub read_step_lem : read_step r p (placed p c) ≡ step_read r p (holds c)
    read_step_lem = rw (le-ltb level (length c.older) small) same_step

    pub read_given_lem : read_given r p (placed p c) ≡ record {
      receiver = with_kept (moved_to r c.source c.sequence) r.has_kept r.kept;
      answer = gives (given_at p c (distance c.sequence r.expected));
    }
    read_given_lem = rw (le-ltb level (length c.older) small) gives_step

-- the step of a packet that the reader refused, or read
module _ (r : Receiver) (p : List ℕ) where
  pub refused_step : (k : Refusal) → numbered (Err k) ≡ read_of (source_expected r) r.t140 r.red p → record { receiver = r; answer = refuses (number k) } ≡ step_of r p
  unfolding read_of step_of
  refused_step k e = sym (ap (step_read r p) (was_refused_lem p k (reading level (source_expected r) r.t140 r.red p) e))

  module _ (x : Packet) (e : numbered (Ok x) ≡ read_of (source_expected r) r.t140 r.red p) where
    pub was_read : (c : Content) × (reading level (source_expected r) r.t140 r.red p ≡ holds c) × (x ≡ placed p c)
    unfolding read_of
    was_read =
        was_accepted p x (reading level (source_expected r) r.t140 r.red p)
        (reading_positive level (source_expected r) r.t140 r.red p) e

    pub few_older : x.count ≤ level
    few_older = omega (arith, ap (λ (k : Packet). k.count) was_read.2, few level (source_expected r) r.t140 r.red p was_read.0 was_read.1)

    pub accepted_step_lem : accepted_step r p x ≡ step_of r p
    unfolding step_of
    accepted_step_lem =
        let h = was_read in
        ap (accepted_step r p) h.2
        ∙ same_step r p h.0 (lies level (source_expected r) r.t140 r.red p h.0 h.1) (headed level (source_expected r) r.t140 r.red p h.0 h.1)
        ∙ sym (ap (step_read r p) h.1)
