-- Demand 3 with holding: what is handed out rises, each packet inside the window of the one before, so that the record over the
-- answers is the core's over the packets handed out.
use Prim.Native.Nat.{ℕ, zero, suc, ◌≤◌, max}
use mathlib.Core.Path.{◌≡◌, refl, ap, ap₂, ◌∙◌, sym, subst}
use mathlib.Core.Bool.{Bool, true, false}
use mathlib.Core.List.{List, [], ◌∷◌, ◌++◌, map}
use mathlib.Core.Option.{Option, none, some}
use native.Mathlib.Omega.{arith}
use lib.IntN.{pos}
use Rattle.base.specs.Checks.{number_by}
use Rattle.packet_spec.specs.Limits.{level}
use Rattle.packet_spec.specs.Header.{Any, Only}
use Rattle.packet_spec.specs.Reading.{Content, Read, holds, refused, reading}
use Rattle.packet_spec.proofs.BlocksLie.{of_one_source}
use Rattle.delivery.specs.Numbers.{next}
use Rattle.delivery.specs.Course.{distance, Course, forward, is_kept}
use Rattle.delivery.specs.Record.{Entry}
use Rattle.delivery.specs.Sending.{BlockSender}
use Rattle.delivery.specs.Claim.{Near, NearFrom, expected_record}
use Rattle.delivery.specs.Internal.Core as core
use Rattle.delivery.specs.Internal.Core.{sent, InOrder}
use Rattle.delivery.proofs.WrappedDistance.{course_ahead}
use Rattle.delivery.proofs.Delivered.{at, after_ahead, delivered}
use Rattle.receiver_spec.specs.State.{fresh_receiver, read_by}
use Rattle.receiver_spec.specs.Answers as plain
use Rattle.receiver_spec.specs.Record as plain_record
use Rattle.receiver_spec.specs.Step.{all_of, given_at}
use Rattle.receiver_spec.proofs.Core.{packet_of, adds_is}
use Rattle.holding_spec.specs.State.{HoldingReceiver, fresh_holding, holding_checks}
use Rattle.holding_spec.specs.Answers.{bytes_of, Which, neither, new, chosen, waits, gives, HoldingStep, was_refused}
use Rattle.holding_spec.specs.Rule.{Arrived, holding, waited}
use Rattle.holding_spec.specs.Step.{lent_back, arrived_at, arrives_read, called, holding_step}
use Rattle.holding_spec.specs.Record.{Call, new_bytes, entries_of, record_of}
use Rattle.holding_spec.specs.Claim.{Ledger, nothing_yet, listed, handed, newer, behind, InWindow, arriving, Unaltered, HandsOut, end, refused as refused_call, accepted}
use Rattle.holding_spec.proofs.Refusals.{refused_first, passed, refused_stays, refused_adds}
use Rattle.holding_spec.proofs.Turns as turns

-- an accepted call has passed the checks
unrefused : (s : HoldingReceiver) (t : ℕ) (lent : List ℕ) (p : Option (List ℕ)) → was_refused (holding_step s t lent p).answer ≡ false → holding_step s t lent p ≡ called s t lent p
unrefused s t lent p ok = go (number_by (holding_checks s t lent)) refl
  where
    go : (n : ℕ) → number_by (holding_checks s t lent) ≡ n → holding_step s t lent p ≡ called s t lent p
    go zero e = passed s t lent p e
    go (suc n) e =
        let z : true ≡ false = sym (ap (λ (x : HoldingStep). was_refused x.answer) (refused_first s t lent p n e)) ∙ ok in
        absurd (let w : ◌≡◌ {A = ℕ} 0 1 = cc in omega arith)

module _ (S : BlockSender) (ordered : InOrder S) (t140 red : ℕ) (packet : ℕ → List ℕ)
    (reads : (k : ℕ) (c : Content) → reading level Any t140 red (packet k) ≡ holds c → packet_of c ≡ sent S k) where
  abbrev Fits : ℕ → ℕ → Option ℕ → Option Arrived → Type 0
  Fits = turns.Fits S t140 red packet reads

  abbrev Turn : ℕ → ℕ → ℕ → ℕ → Option ℕ → Option ℕ → List ℕ → List ℕ → HoldingStep → Type 0
  Turn = turns.Turn S t140 red packet reads

  abbrev expected_after : ℕ → ℕ
  expected_after = turns.expected_after S t140 red packet reads

  -- a holding receiver that expects number e, and holds h
  abbrev line : ℕ → ℕ → Bool → ℕ → ℕ → Option Arrived → HoldingReceiver
  line source e has_kept kept t h = holding (turns.line S t140 red packet reads source e has_kept kept) t h

  abbrev Hands : Ledger → HoldingReceiver → List Call → List ℕ → Type 0
  Hands = HandsOut S packet holding_step

  -- the packet held, lent back
  back : (n source e : ℕ) (has_kept : Bool) (kept t : ℕ) (j : Option ℕ) (h : Option Arrived) (lent : List ℕ) → Fits n source j h → Unaltered S packet j lent
      → (lent_back (line source e has_kept kept t h) lent ≡ h) × ((x : Arrived) → h ≡ some x → lent ≡ x.bytes)
  back n source e has_kept kept t j h lent turns.nothing u = (refl, λ x q. absurd (let z : ◌≡◌ {A = ℕ} 0 1 = cc in omega arith))
  back n source e has_kept kept t j h lent (turns.one k x a) u =
      let same : lent ≡ x.bytes = u ∙ sym a.is in (
        ap (λ (b : List ℕ). arrived_at x.arrival b (reading level (Only source) t140 red b)) same ∙ ap (arrived_at x.arrival x.bytes) a.read,
        λ y q. let z : x ≡ y = cc in same ∙ ap (λ (w : Arrived). w.bytes) z,
      )

  -- the turn of an accepted call
  turn : (n source e : ℕ) (has_kept : Bool) (kept t₀ : ℕ) (j : Option ℕ) (h : Option Arrived) → e ≡ expected_after n → Fits n source j h
      → (t : ℕ) (lent : List ℕ) (k : Option ℕ) → was_refused (holding_step (line source e has_kept kept t₀ h) t lent (arriving S packet k)).answer ≡ false
      → Unaltered S packet j lent → InWindow S packet (some n) k
      → Turn n source e t j k lent (new_bytes (arriving S packet k)) (holding_step (line source e has_kept kept t₀ h) t lent (arriving S packet k))
  turn n source e has_kept kept t₀ j h is_n f t lent none ok u w =
      let s = line source e has_kept kept t₀ h in
      let b = back n source e has_kept kept t₀ j h lent f u in
      subst (Turn n source e t j none lent [])
      (sym (unrefused s t lent none ok ∙ ap (waited s.receiver t) b.0))
      (turns.wait_turn S t140 red packet reads n source e t has_kept kept is_n j h lent f b.1)
  turn n source e has_kept kept t₀ j h is_n f t lent (some k) ok u w =
      subst (Turn n source e t j (some k) lent (packet k)) (sym is)
      (go (read_by s.receiver (packet k)) refl (ap (λ (x : HoldingStep). was_refused x.answer) (sym is) ∙ ok))
    where
      s : HoldingReceiver
      s = line source e has_kept kept t₀ h

      b : (lent_back s lent ≡ h) × ((x : Arrived) → h ≡ some x → lent ≡ x.bytes)
      b = back n source e has_kept kept t₀ j h lent f u

      is : holding_step s t lent (some (packet k)) ≡ arrives_read s t (packet k) h (read_by s.receiver (packet k))
      is = unrefused s t lent (some (packet k)) ok ∙ ap (λ (x : Option Arrived). arrives_read s t (packet k) x (read_by s.receiver (packet k))) b.0

      go : (x : Read) → read_by s.receiver (packet k) ≡ x → was_refused (arrives_read s t (packet k) h x).answer ≡ false
          → Turn n source e t j (some k) lent (packet k) (arrives_read s t (packet k) h x)
      go (refused m) q o = absurd (let z : ◌≡◌ {A = ℕ} 0 1 = cc in omega arith)
      go (holds c) q o =
          turns.arrives_turn S t140 red packet reads n source e t has_kept kept is_n k (record { arrival = t; bytes = packet k; content = c }) refl q j h lent f b.1 w.0 w.1

  -- what goes out adds what the core adds
  adds : (n source e : ℕ) (has_kept : Bool) (kept : ℕ) → e ≡ expected_after n → (t₀ : ℕ) (h : Option Arrived) (c : Call) (of keep : Which) (m : ℕ) (x : Arrived)
      → bytes_of of c.lent (new_bytes c.packet) ≡ x.bytes → turns.Ahead S t140 red packet reads n source m x → (kept' : Option ℕ)
      → entries_of (line source e has_kept kept t₀ h) c (gives of keep false (given_at x.bytes x.content (distance x.content.sequence e)))
      ≡ core.adds (at S ordered n kept') (sent S m)
  adds n source e has_kept kept is_n t₀ h c of keep m x same a kept' =
      let r = (line source e has_kept kept t₀ h).receiver in
      let p : packet_of x.content ≡ sent S m = turns.is_sent_lem S t140 red packet reads source m x.bytes x.content a.is a.read in
      let d : distance x.content.sequence e ≡ distance (sent S m).sequence (expected_after n) = ap₂ (λ (y z : ℕ). distance y z) (ap (λ (y : core.Packet). y.sequence) p) is_n in
      ap (λ (b : List ℕ). plain_record.entries_of r b (plain.gives (given_at x.bytes x.content (distance x.content.sequence e)))) same
      ∙ adds_is r x.bytes x.content a.read true forward (distance x.content.sequence e)
      ∙ ap₂ (λ (y : ℕ) (z : core.Packet). core.adds_at forward y z) d p
      ∙ sym (ap (λ (v : Course). core.adds_at v (distance (sent S m).sequence (expected_after n)) (sent S m)) (course_ahead S.first n (S.newest m) (is_kept kept' (sent S m).sequence) a.above a.near))

  record Good (n : ℕ) (told : List Entry) (ks : List ℕ) : Type 0 where
    same_record : (kept : Option ℕ) → told ≡ core.record_from (at S ordered n kept) (map (sent S) ks)
    near : NearFrom S n ks

  abbrev From : List Call → Type 0
  From cs = (n source e : ℕ) (has_kept : Bool) (kept t : ℕ) (j : Option ℕ) (h : Option Arrived) (ks : List ℕ) → e ≡ expected_after n → Fits n source j h
      → Hands (record { newest = some n; kept = j }) (line source e has_kept kept t h) cs ks → Good n (record_of holding_step (line source e has_kept kept t h) cs) ks

  turn_good : (n source e : ℕ) (has_kept : Bool) (kept t₀ : ℕ) (h₀ : Option Arrived) (j k : Option ℕ) (c : Call) (X : HoldingStep) (cs : List Call) (ks : List ℕ)
      → e ≡ expected_after n → Turn n source e c.clock j k c.lent (new_bytes c.packet) X → From cs
      → Hands (behind S packet (record { newest = some n; kept = j }) k X.answer) X.receiver cs ks
      → Good n (entries_of (line source e has_kept kept t₀ h₀) c X.answer ++ record_of holding_step X.receiver cs) (listed (handed (record { newest = some n; kept = j }) k X.answer) ++ ks)
  turn_good n source e has_kept kept t₀ h₀ j k c X cs ks is_n (turns.waits_on hk kp h z keep f) ih rest = ih n source e hk kp c.clock (chosen keep j k) h ks is_n f rest
  turn_good n source e has_kept kept t₀ h₀ j k c X cs ks is_n (turns.passes_over hk kp h z keep f) ih rest = ih n source e hk kp c.clock (chosen keep j k) h ks is_n f rest
  turn_good n source e has_kept kept t₀ h₀ j k c X cs ks is_n (turns.goes_out hk kp h of keep m x ch same a f) ih rest =
      let y = x.content in
      let from_source : y.source ≡ source = (of_one_source level source t140 red x.bytes y a.read).1 in
      let above : n ≤ S.newest m = let l = a.above in omega arith in
      let larger : max n (S.newest m) ≡ S.newest m = omega arith in
      let is_m : next y.sequence ≡ expected_after (S.newest m) = ap next (turns.number_is S t140 red packet reads source m x.bytes y a.is a.read) in
      let left : HoldingReceiver = line y.source (next y.sequence) hk kp c.clock h in
      let newest_is : newer S packet (some n) (chosen of j k) ≡ some (S.newest m) = ap (newer S packet (some n)) ch ∙ ap some larger in
      let rest' : Hands (record { newest = some (S.newest m); kept = chosen keep j k }) left cs ks =
      subst (λ (q : Option ℕ). Hands (record { newest = q; kept = chosen keep j k }) left cs ks) newest_is rest in
      let g = ih (S.newest m) y.source (next y.sequence) hk kp c.clock (chosen keep j k) h ks is_m (subst (λ (q : ℕ). Fits (S.newest m) q (chosen keep j k) h) (sym from_source) f) rest' in
      let out : listed (chosen of j k) ++ ks ≡ m ∷ ks = ap (λ (q : Option ℕ). listed q ++ ks) ch in
      record {
        same_record = λ kept'.
            ap₂ {C = List Entry} (λ p q. p ++ q)
            (adds n source e has_kept kept is_n t₀ h₀ c of keep m x same a kept')
            (g.same_record none ∙ sym (ap (λ (q : core.BlockReceiver). core.record_from q (map (sent S) ks)) (after_ahead S ordered n m kept' a.above a.near)))
            ∙ sym (ap (λ (q : List ℕ). core.record_from (at S ordered n kept') (map (sent S) q)) out);
        near = subst (NearFrom S n) (sym out) (a.near, omega arith, subst (λ (q : ℕ). NearFrom S q ks) (sym larger) g.near);
      }

  from : (cs : List Call) → From cs
  from [] n source e has_kept kept t j h ks is_n f end = record { same_record = λ _. refl; near = tt }
  from (c₁ ∷ cs) n source e has_kept kept t j h ks is_n f (refused_call c x rest) =
      let s = line source e has_kept kept t h in
      let same = refused_stays s c.clock c.lent c.packet x in
      let g = from cs n source e has_kept kept t j h ks is_n f (subst (λ (q : HoldingReceiver). Hands (record { newest = some n; kept = j }) q cs ks) same rest) in
      record {
        same_record = λ kept'. ap₂ {C = List Entry} (λ p q. p ++ q) (refused_adds s c (holding_step s c.clock c.lent c.packet).answer x) (ap (λ (q : HoldingReceiver). record_of holding_step q cs) same ∙ g.same_record kept');
        near = g.near;
      }
  from (c ∷ cs) n source e has_kept kept t₀ j h ks is_n f (accepted t lent k {ks = ks'} ok u w rest) =
      turn_good n source e has_kept kept t₀ h j k (record { clock = t; lent = lent; packet = arriving S packet k }) (holding_step (line source e has_kept kept t₀ h) t lent (arriving S packet k)) cs ks' is_n
      (turn n source e has_kept kept t₀ j h is_n f t lent k ok u w) (from cs) rest

  -- before the first packet
  abbrev unheard : ℕ → HoldingReceiver
  unheard t = holding (fresh_receiver t140 red) t none

  record Whole (told : List Entry) (ks : List ℕ) : Type 0 where
    same_record : told ≡ core.record_from core.fresh (map (sent S) ks)
    near : Near S ks

  -- no packet, or the first
  data First (t : ℕ) : Option ℕ → HoldingStep → Type 0 where
    waits_on : First t none (record { receiver = unheard t; answer = waits (pos 0) neither })
    opens : (k : ℕ) (c : Content) → reading level Any t140 red (packet k) ≡ holds c
        → First t (some k) (record { receiver = line c.source (next c.sequence) false 0 t none; answer = gives new neither false (all_of (packet k) c) })

  first : (t₀ t : ℕ) (lent : List ℕ) (k : Option ℕ) → was_refused (holding_step (unheard t₀) t lent (arriving S packet k)).answer ≡ false
      → First t k (holding_step (unheard t₀) t lent (arriving S packet k))
  first t₀ t lent none ok = subst (First t none) (sym (unrefused (unheard t₀) t lent none ok)) waits_on
  first t₀ t lent (some k) ok =
      subst (First t (some k)) (sym is) (go (read_by (fresh_receiver t140 red) (packet k)) refl (ap (λ (x : HoldingStep). was_refused x.answer) (sym is) ∙ ok))
    where
      is : holding_step (unheard t₀) t lent (some (packet k)) ≡ arrives_read (unheard t₀) t (packet k) none (read_by (fresh_receiver t140 red) (packet k))
      is = unrefused (unheard t₀) t lent (some (packet k)) ok

      go : (x : Read) → read_by (fresh_receiver t140 red) (packet k) ≡ x → was_refused (arrives_read (unheard t₀) t (packet k) none x).answer ≡ false
          → First t (some k) (arrives_read (unheard t₀) t (packet k) none x)
      go (refused m) q o = absurd (let z : ◌≡◌ {A = ℕ} 0 1 = cc in omega arith)
      go (holds c) q o = opens k c q

  first_good : (t₀ : ℕ) (t : ℕ) (lent : List ℕ) (k : Option ℕ) (X : HoldingStep) (cs : List Call) (ks : List ℕ) → First t k X
      → (Hands nothing_yet (unheard t) cs ks → Whole (record_of holding_step (unheard t) cs) ks)
      → Hands (behind S packet nothing_yet k X.answer) X.receiver cs ks
      → Whole (entries_of (unheard t₀) (record { clock = t; lent = lent; packet = arriving S packet k }) X.answer ++ record_of holding_step X.receiver cs) (listed (handed nothing_yet k X.answer) ++ ks)
  first_good t₀ t lent k X cs ks waits_on ih rest = ih rest
  first_good t₀ t lent k X cs ks (opens m y q) ih rest =
      let p : packet_of y ≡ sent S m = reads m y q in
      let g = from cs (S.newest m) y.source (next y.sequence) false 0 t none none ks (ap (λ (x : core.Packet). next x.sequence) p) turns.nothing rest in
      record {
        same_record = ap₂ {C = List Entry} (λ a b. a ++ b)
            (adds_is (fresh_receiver t140 red) (packet m) y q false forward 0 ∙ ap (core.adds core.fresh) p)
            (g.same_record none);
        near = g.near;
      }

  whole : (cs : List Call) (t : ℕ) (ks : List ℕ) → Hands nothing_yet (unheard t) cs ks → Whole (record_of holding_step (unheard t) cs) ks
  whole [] t ks end = record { same_record = refl; near = tt }
  whole (c₁ ∷ cs) t ks (refused_call c x rest) =
      let s = unheard t in
      let same = refused_stays s c.clock c.lent c.packet x in
      let g = whole cs t ks (subst (λ (q : HoldingReceiver). Hands nothing_yet q cs ks) same rest) in
      record {
        same_record = ap₂ {C = List Entry} (λ p q. p ++ q) (refused_adds s c (holding_step s c.clock c.lent c.packet).answer x) (ap (λ (q : HoldingReceiver). record_of holding_step q cs) same ∙ g.same_record);
        near = g.near;
      }
  whole (c ∷ cs) t₀ ks (accepted t lent k {ks = ks'} ok u w rest) =
      first_good t₀ t lent k (holding_step (unheard t₀) t lent (arriving S packet k)) cs ks' (first t₀ t lent k ok) (whole cs t ks') rest

  pub recorded : (cs : List Call) (ks : List ℕ) → Hands nothing_yet (fresh_holding t140 red) cs ks → record_of holding_step (fresh_holding t140 red) cs ≡ expected_record S ks
  recorded cs ks calls =
      let g = whole cs 0 ks calls in
      g.same_record ∙ delivered S ordered ks g.near
