-- What a call comes to, in the sender's numbers, where block n is the newest handed out: nothing is given, or the next packet in
-- order goes out; and what is held then is a packet ahead of that, inside the window.
use Prim.Native.Nat.{ℕ, suc, ◌+◌, ◌-◌, ◌≤◌, ◌<◌}
use mathlib.Core.Path.{◌≡◌, refl, ap, ap₂, ◌∙◌, sym, subst}
use mathlib.Core.Bool.{Bool, true, false}
use mathlib.Core.List.{List, []}
use mathlib.Core.Option.{Option, none, some}
use native.Mathlib.Omega.{arith}
use lib.Dec.{ltb}
use lib.IntN.{ℤ, pos}
use borrow.Author.Tests.{ltb-true, ltb-false, eqb-false}
use Rattle.base.proofs.Tests.{by_test}
use Rattle.packet_spec.specs.Limits.{level}
use Rattle.packet_spec.specs.Header.{Any, Only}
use Rattle.packet_spec.specs.Reading.{Content, holds, reading}
use Rattle.packet_spec.proofs.BlocksLie.{of_one_source}
use Rattle.delivery.specs.Numbers.{most_ahead, most_behind, wrapped, next}
use Rattle.delivery.specs.Course.{distance, Course, forward, late, course_of, is_kept, course_at}
use Rattle.delivery.specs.Sending.{BlockSender}
use Rattle.delivery.specs.Internal.Core as core
use Rattle.delivery.specs.Internal.Core.{sent}
use Rattle.delivery.proofs.WrappedDistance.{distance_ahead, course_ahead, course_behind}
use Rattle.receiver_spec.specs.State.{Receiver, kept_by}
use Rattle.receiver_spec.specs.Distance.{signed}
use Rattle.receiver_spec.specs.Step.{given_at}
use Rattle.receiver_spec.proofs.Core.{packet_of}
use Rattle.holding_spec.specs.Answers.{bytes_of, Which, neither, held, new, chosen, waits, is_late, gives, HoldingStep}
use Rattle.holding_spec.specs.Rule.{Arrived, holding, ahead, would_lose, is_due, is_nearer, is_held, stays, keeps, waited, forward_arrives, by_course, later_arrives}

-- a sender, and the bytes of its packet k; wherever these are read, they are the packet that delivery's sender sends
module _ (S : BlockSender) (t140 red : ℕ) (packet : ℕ → List ℕ)
    (reads : (k : ℕ) (c : Content) → reading level Any t140 red (packet k) ≡ holds c → packet_of c ≡ sent S k) where
  -- the number that is expected behind block n
  abbrev pub expected_after : ℕ → ℕ
  expected_after n = next (wrapped (S.first + n))

  -- a receiver of these payload types that has a source
  abbrev pub line : ℕ → ℕ → Bool → ℕ → Receiver
  line source e has_kept kept = record { t140 = t140; red = red; has_source = true; source = source; expected = e; has_kept = has_kept; kept = kept }

  abbrev pub ReadsFrom : ℕ → List ℕ → Content → Type 0
  ReadsFrom source p c = reading level (Only source) t140 red p ≡ holds c

  -- packet k as it is read
  pub is_sent_lem : (source k : ℕ) (p : List ℕ) (c : Content) → p ≡ packet k → ReadsFrom source p c → packet_of c ≡ sent S k
  is_sent_lem source k p c e r = reads k c (ap (reading level Any t140 red) (sym e) ∙ (of_one_source level source t140 red p c r).0)

  pub number_is : (source k : ℕ) (p : List ℕ) (c : Content) → p ≡ packet k → ReadsFrom source p c → c.sequence ≡ wrapped (S.first + S.newest k)
  number_is source k p c e r = ap (λ (x : core.Packet). x.sequence) (is_sent_lem source k p c e r)

  -- packet k of the sender, ahead of block n and inside the window
  pub record Ahead (n source k : ℕ) (x : Arrived) : Type 0 where
    pub above : n < S.newest k
    pub near : S.newest k ≤ n + most_ahead
    pub is : x.bytes ≡ packet k
    pub read : ReadsFrom source x.bytes x.content

  -- what is held: no packet, or such a one
  pub data Fits (n source : ℕ) : Option ℕ → Option Arrived → Type 0 where
    nothing : Fits n source none none
    one : (k : ℕ) (x : Arrived) → Ahead n source k x → Fits n source (some k) (some x)

  -- the turns of an accepted call: packets j and k of the sender, if they are, are the held one and the new one
  pub data Turn (n source e t : ℕ) (j k : Option ℕ) (lent p : List ℕ) : HoldingStep → Type 0 where
    waits_on : (has_kept : Bool) (kept : ℕ) (h : Option Arrived) (z : ℤ) (keep : Which) → Fits n source (chosen keep j k) h
        → Turn n source e t j k lent p (record { receiver = holding (line source e has_kept kept) t h; answer = waits z keep })
    passes_over : (has_kept : Bool) (kept : ℕ) (h : Option Arrived) (z : ℤ) (keep : Which) → Fits n source (chosen keep j k) h
        → Turn n source e t j k lent p (record { receiver = holding (line source e has_kept kept) t h; answer = is_late z keep })
    goes_out : (has_kept : Bool) (kept : ℕ) (h : Option Arrived) (of keep : Which) (m : ℕ) (x : Arrived)
        → chosen of j k ≡ some m → bytes_of of lent p ≡ x.bytes → Ahead n source m x → Fits (S.newest m) source (chosen keep j k) h
        → Turn n source e t j k lent p (record {
          receiver = holding (line x.content.source (next x.content.sequence) has_kept kept) t h;
          answer = gives of keep false (given_at x.bytes x.content (distance x.content.sequence e));
        })

  module _ (n source e t : ℕ) (has_kept : Bool) (kept : ℕ) (is_n : e ≡ expected_after n) where
    abbrev r : Receiver
    r = line source e has_kept kept

    -- without a packet
    pub wait_turn : (j : Option ℕ) (h : Option Arrived) (lent : List ℕ) → Fits n source j h → ((x : Arrived) → h ≡ some x → lent ≡ x.bytes)
        → Turn n source e t j none lent [] (waited r t h)
    wait_turn j h lent nothing b = waits_on has_kept kept none (pos 0) neither nothing
    wait_turn j h lent (one k x a) b =
        by_test (Turn n source e t (some k) none lent []) (is_due r t x)
        (λ _. goes_out has_kept kept none held neither k x refl (b x refl) a nothing)
        (λ _. waits_on has_kept kept (some x) (pos 0) held (one k x a))

    -- how far ahead
    far : (k : ℕ) (x : Arrived) → Ahead n source k x → distance x.content.sequence e ≡ S.newest k - suc n
    far k x a =
        ap₂ (λ (y z : ℕ). distance y z) (number_is source k x.bytes x.content a.is a.read) is_n
        ∙ distance_ahead S.first n (S.newest k) a.above (let u = a.near in omega arith)

    late_turn : (z : ℤ) (j k : Option ℕ) (h y : Option Arrived) (lent p : List ℕ) → Fits n source j h → Turn n source e t j k lent p (keeps r t h y (is_late z) (stays h))
    late_turn z j k h y lent p nothing = passes_over has_kept kept none z neither nothing
    late_turn z j k h y lent p (one m x a) = passes_over has_kept kept (some x) z held (one m x a)

    -- packet k arrives
    module _ (k : ℕ) (x : Arrived) (is_k : x.bytes ≡ packet k) (read : ReadsFrom source x.bytes x.content) where
      number : x.content.sequence ≡ wrapped (S.first + S.newest k)
      number = number_is source k x.bytes x.content is_k read

      forward_turn : (j : Option ℕ) (h : Option Arrived) (lent : List ℕ) → Fits n source j h → ((y : Arrived) → h ≡ some y → lent ≡ y.bytes)
          → is_held h x ≡ false → n < S.newest k → S.newest k ≤ n + most_ahead
          → Turn n source e t j (some k) lent x.bytes (forward_arrives (line source e false 0) t x h)
      forward_turn j h lent nothing b other l u =
          let a : Ahead n source k x = record { above = l; near = u; is = is_k; read = read } in
          by_test (Turn n source e t none (some k) lent x.bytes) (would_lose (line source e false 0) x)
          (λ _. waits_on false 0 (some x) (signed (distance x.content.sequence e)) new (one k x a))
          (λ _. goes_out false 0 none new neither k x refl refl a nothing)
      forward_turn j h lent (one m y a) b other l u =
          let ax : Ahead n source k x = record { above = l; near = u; is = is_k; read = read } in
          let dx : distance x.content.sequence e ≡ S.newest k - suc n = far k x ax in
          let dy : distance y.content.sequence e ≡ S.newest m - suc n = far m y a in
          let above_y : n < S.newest m = a.above in
          let near_y : S.newest m ≤ n + most_ahead = a.near in
          let differ : S.newest k ≡ S.newest m → ⊥ =
          λ i. eqb-false x.content.sequence y.content.sequence other
          (number ∙ ap (λ (q : ℕ). wrapped (S.first + q)) i ∙ sym (number_is source m y.bytes y.content a.is a.read)) in
          by_test (Turn n source e t (some m) (some k) lent x.bytes) (is_nearer (line source e false 0) x y)
          (λ i.
          let first : distance x.content.sequence e < distance y.content.sequence e = ltb-true _ _ i in
          goes_out false 0 (some y) new held k x refl refl ax (one m y (record { above = omega arith; near = omega arith; is = a.is; read = a.read })))
          (λ i.
          let first : distance y.content.sequence e ≤ distance x.content.sequence e = ltb-false _ _ i in
          let behind : S.newest m < S.newest k = omega (arith, differ) in
          goes_out false 0 (some x) held new m y refl (b y refl) a (one k x (record { above = behind; near = omega arith; is = is_k; read = read })))

      pub arrives_turn : (j : Option ℕ) (h : Option Arrived) (lent : List ℕ) → Fits n source j h → ((y : Arrived) → h ≡ some y → lent ≡ y.bytes)
          → S.newest k ≤ n + most_ahead → n ≤ S.newest k + most_behind → Turn n source e t j (some k) lent x.bytes (later_arrives r t x h)
      arrives_turn j h lent f b u v =
          by_test (Turn n source e t j (some k) lent x.bytes) (is_held h x)
          (λ _. late_turn (signed (ahead r x)) j (some k) h (some x) lent x.bytes f)
          (λ other. go other (ltb n (S.newest k)) refl)
        where
          same : Bool
          same = is_kept (kept_by r) x.content.sequence

          dist : distance x.content.sequence e ≡ distance (wrapped (S.first + S.newest k)) (expected_after n)
          dist = ap₂ (λ (y z : ℕ). distance y z) number is_n

          go : is_held h x ≡ false → (i : Bool) → ltb n (S.newest k) ≡ i
              → Turn n source e t j (some k) lent x.bytes (by_course (course_at r.expected (kept_by r) x.content.sequence) r t x h)
          go other true i =
              let l : n < S.newest k = ltb-true n (S.newest k) i in
              let g : course_at e (kept_by r) x.content.sequence ≡ forward = ap (λ (y : ℕ). course_of y same) dist ∙ course_ahead S.first n (S.newest k) same l u in
              subst (λ (v : Course). Turn n source e t j (some k) lent x.bytes (by_course v r t x h)) (sym g) (forward_turn j h lent f b other l u)
          go other false i =
              let g : course_at e (kept_by r) x.content.sequence ≡ late =
              ap (λ (y : ℕ). course_of y same) dist ∙ course_behind S.first n (S.newest k) same (ltb-false n (S.newest k) i) v in
              subst (λ (v : Course). Turn n source e t j (some k) lent x.bytes (by_course v r t x h)) (sym g)
              (late_turn (signed (ahead r x)) j (some k) h (some x) lent x.bytes f)
