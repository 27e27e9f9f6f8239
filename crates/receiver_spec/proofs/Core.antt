-- From packets as bytes to packets as read: the step's own answers make the record that the core speaks of.
use Prim.Native.Nat.{ℕ, suc, ◌≤◌}
use mathlib.Core.Path.{◌≡◌, ◌∙◌, refl, ap, ap₂, sym}
use mathlib.Core.List.{List, [], ◌∷◌, ◌++◌, map, nil≢cons, cons≢nil, head-eq_of_cons-eq, tail-eq_of_cons-eq}
use mathlib.Core.Bool.{Bool, true, false, cond}
use mathlib.Core.Option.{Option}
use native.Mathlib.Omega.{arith}
use lib.ListN.{length, length-map}
use Rattle.packet_spec.specs.Header.{Any}
use Rattle.receiver_spec.specs.State.{Receiver, kept_by, read_by}
use Rattle.packet_spec.specs.Limits.{level}
use Rattle.packet_spec.specs.Redundancy.{blocks_of}
use Rattle.packet_spec.specs.Reading.{Content, Read, holds, refused, reading}
use Rattle.delivery.specs.Course.{Course, forward, late, jump, break, course_at, distance, wanted, loss}
use Rattle.delivery.specs.Internal.Core as core
use Rattle.delivery.specs.Record.{Entry, entries, last_of}
use Rattle.delivery.specs.Sending.{BlockSender}
use Rattle.delivery.specs.Internal.Core.{sent}
use Rattle.receiver_spec.specs.Step.{step_read, first_step, step_by, step_of}
use Rattle.receiver_spec.specs.Record.{blocks_in, entries_of, record_of, accepted_of}
use Rattle.receiver_spec.specs.Answers.{is_accepted}
use Rattle.receiver_spec.proofs.AcceptedBlocks.{last_snoc, read_by_any}

-- a packet as the core has it
abbrev pub packet_of : Content → core.Packet
packet_of c = record { sequence = c.sequence; older = map (λ b. b.bytes) c.older; primary = c.primary }

abbrev packets_read : Read → List core.Packet
packets_read (refused n) = []
packets_read (holds c) = packet_of c ∷ []

-- the packets that the step accepts, as they are read
abbrev packets : Receiver → List (List ℕ) → List core.Packet
packets r [] = []
packets r (p ∷ ps) = packets_read (read_by r p) ++ packets (step_of r p).receiver ps

abbrev pub state : Receiver → core.BlockReceiver
state r = cond r.has_source (core.expects r.expected (kept_by r)) core.fresh

-- one step: what it adds to the record, and the receiver after it
module _ (r : Receiver) (p : List ℕ) (c : Content) (e : read_by r p ≡ holds c) where
  same_length : length (map (λ b. b.bytes) c.older) ≡ length c.older
  same_length = length-map c.older (λ b. b.bytes)

  given_is : (w : ℕ) → w ≤ length c.older → last_of (suc w) (blocks_of c.older c.primary) ≡ core.last_blocks w (packet_of c)
  given_is w h = last_snoc w (map (λ b. b.bytes) c.older) c.primary (omega (arith, same_length))

  -- all blocks, as of the first packet
  all_is : entries 0 (last_of (suc (length c.older)) (blocks_in (read_by r p))) ≡ core.adds_first (packet_of c)
  all_is =
      ap (λ (x : Read). entries 0 (last_of (suc (length c.older)) (blocks_in x))) e
      ∙ ap (entries 0) (given_is (length c.older) (omega arith))
      ∙ ap (λ (k : ℕ). entries 0 (core.last_blocks k (packet_of c))) (sym same_length)

  pub adds_is : (h : Bool) (v : Course) (d : ℕ)
      → entries_of r p (cond h (step_by v r p c d) (first_step r p c)).answer ≡ cond h (core.adds_at v d (packet_of c)) (core.adds core.fresh (packet_of c))
  adds_is true forward d =
      ap (λ (x : Read). entries (loss d (length c.older)) (last_of (suc (wanted d (length c.older))) (blocks_in x))) e
      ∙ ap (entries (loss d (length c.older))) (given_is (wanted d (length c.older)) (omega arith))
      ∙ ap (λ (k : ℕ). entries (loss d k) (core.last_blocks (wanted d k) (packet_of c))) (sym same_length)
  adds_is true late d = refl
  adds_is true jump d = refl
  adds_is true break d = all_is
  adds_is false v d = all_is

  after_is : (h : Bool) (v : Course) (d : ℕ)
      → state (cond h (step_by v (record { t140 = r.t140; red = r.red; has_source = h; source = r.source; expected = r.expected; has_kept = r.has_kept; kept = r.kept }) p c d) (first_step r p c)).receiver
      ≡ cond h (core.receiver_after_at v r.expected (kept_by r) (packet_of c)) (core.receiver_after core.fresh (packet_of c))
  after_is true forward d = refl
  after_is true late d = refl
  after_is true jump d = refl
  after_is true break d = refl
  after_is false v d = refl

adds_state : (h : Bool) (x : ℕ) (kept : Option ℕ) (k : core.Packet)
    → cond h (core.adds_at (course_at x kept k.sequence) (distance k.sequence x) k) (core.adds core.fresh k) ≡ core.adds (cond h (core.expects x kept) core.fresh) k
adds_state true x kept k = refl
adds_state false x kept k = refl

after_state : (h : Bool) (x : ℕ) (kept : Option ℕ) (k : core.Packet)
    → cond h (core.receiver_after_at (course_at x kept k.sequence) x kept k) (core.receiver_after core.fresh k) ≡ core.receiver_after (cond h (core.expects x kept) core.fresh) k
after_state true x kept k = refl
after_state false x kept k = refl

module _ (r : Receiver) (p : List ℕ) (c : Content) (e : read_by r p ≡ holds c) where
  abbrev d : ℕ
  d = distance c.sequence r.expected

  pub step_adds_lem : entries_of r p (step_read r p (holds c)).answer ≡ core.adds (state r) (packet_of c)
  step_adds_lem =
      adds_is r p c e r.has_source (course_at r.expected (kept_by r) c.sequence) d ∙ adds_state r.has_source r.expected (kept_by r) (packet_of c)

  pub step_after : state (step_read r p (holds c)).receiver ≡ core.receiver_after (state r) (packet_of c)
  step_after =
      after_is r p c e r.has_source (course_at r.expected (kept_by r) c.sequence) d ∙ after_state r.has_source r.expected (kept_by r) (packet_of c)

one_step : (r : Receiver) (p : List ℕ) (rest : List core.Packet) (x : Read) → read_by r p ≡ x
    → entries_of r p (step_read r p x).answer ++ core.record_from (state (step_read r p x).receiver) rest ≡ core.record_from (state r) (packets_read x ++ rest)
one_step r p rest (refused n) e = refl
one_step r p rest (holds c) e =
    ap₂ {C = List Entry} (λ a b. a ++ b) (step_adds_lem r p c e) (ap (λ (t : core.BlockReceiver). core.record_from t rest) (step_after r p c e))

pub same_record : (ps : List (List ℕ)) (r : Receiver) → record_of step_of r ps ≡ core.record_from (state r) (packets r ps)
unfolding step_of
same_record [] r = refl
same_record (p ∷ ps) r =
    let s = step_of r p in
    ap (λ (l : List Entry). entries_of r p s.answer ++ l) (same_record ps s.receiver)
    ∙ one_step r p (packets s.receiver ps) (read_by r p) refl

-- what a step keeps, and whether it accepts
pub keeps_types : (r : Receiver) (p : List ℕ) (x : Read) → ((step_read r p x).receiver.t140 ≡ r.t140) × ((step_read r p x).receiver.red ≡ r.red)
keeps_types r p (refused n) = (refl, refl)
keeps_types r p (holds c) = by r.has_source (course_at r.expected (kept_by r) c.sequence)
  where
    d : ℕ
    d = distance c.sequence r.expected

    by : (h : Bool) (v : Course)
        → ((cond h (step_by v r p c d) (first_step r p c)).receiver.t140 ≡ r.t140) × ((cond h (step_by v r p c d) (first_step r p c)).receiver.red ≡ r.red)
    by true forward = (refl, refl)
    by true late = (refl, refl)
    by true jump = (refl, refl)
    by true break = (refl, refl)
    by false v = (refl, refl)

pub accepts : (r : Receiver) (p : List ℕ) (c : Content) → is_accepted (step_read r p (holds c)).answer ≡ true
accepts r p c = by r.has_source (course_at r.expected (kept_by r) c.sequence)
  where
    d : ℕ
    d = distance c.sequence r.expected

    by : (h : Bool) (v : Course) → is_accepted (cond h (step_by v r p c d) (first_step r p c)).answer ≡ true
    by true forward = refl
    by true late = refl
    by true jump = refl
    by true break = refl
    by false v = refl

-- a sender's packets, wherever they are read, are the core's
module _ (t140 red : ℕ) (S : BlockSender) (packet : ℕ → List ℕ)
    (reads : (k : ℕ) (c : Content) → reading level Any t140 red (packet k) ≡ holds c → packet_of c ≡ sent S k) where
  pub same_packets : (ps : List (List ℕ)) (r : Receiver) → r.t140 ≡ t140 → r.red ≡ red → (ks : List ℕ)
      → accepted_of step_of r ps ≡ map packet ks → packets r ps ≡ map (sent S) ks
  unfolding step_of
  same_packets [] r a b [] e = refl
  same_packets [] r a b (k ∷ ks) e = absurd (nil≢cons e)
  same_packets (p ∷ ps) r a b ks e =
      go (read_by r p) refl ks (same_packets ps (step_read r p (read_by r p)).receiver ((keeps_types r p (read_by r p)).0 ∙ a) ((keeps_types r p (read_by r p)).1 ∙ b)) e
    where
      first : (c : Content) → read_by r p ≡ holds c → (rest : List (List ℕ)) (qs : List core.Packet)
          → ((ks : List ℕ) → rest ≡ map packet ks → qs ≡ map (sent S) ks) → (ks : List ℕ) → p ∷ rest ≡ map packet ks → packet_of c ∷ qs ≡ map (sent S) ks
      first c q rest qs f [] e = absurd (cons≢nil e)
      first c q rest qs f (k ∷ ks) e =
          let same : p ≡ packet k = head-eq_of_cons-eq e in
          let any : reading level Any r.t140 r.red p ≡ holds c = read_by_any r p c q in
          let ours : reading level Any t140 red (packet k) ≡ holds c =
          sym (ap (λ (x : ℕ). reading level Any x r.red p) a ∙ ap (λ (x : ℕ). reading level Any t140 x p) b ∙ ap (reading level Any t140 red) same) ∙ any in
          ap₂ {C = List core.Packet} (λ x xs. x ∷ xs) (reads k c ours) (f ks (tail-eq_of_cons-eq e))

      go : (x : Read) → read_by r p ≡ x → (ks : List ℕ)
          → ((ks : List ℕ) → accepted_of step_of (step_read r p x).receiver ps ≡ map packet ks → packets (step_read r p x).receiver ps ≡ map (sent S) ks)
          → cond (is_accepted (step_read r p x).answer) (p ∷ []) [] ++ accepted_of step_of (step_read r p x).receiver ps ≡ map packet ks
          → packets_read x ++ packets (step_read r p x).receiver ps ≡ map (sent S) ks
      go (refused n) q ks f e = f ks e
      go (holds c) q ks f e =
          first c q (accepted_of step_of (step_read r p (holds c)).receiver ps) (packets (step_read r p (holds c)).receiver ps) f ks
          (ap (λ (t : Bool). cond t (p ∷ []) [] ++ accepted_of step_of (step_read r p (holds c)).receiver ps) (sym (accepts r p c)) ∙ e)
