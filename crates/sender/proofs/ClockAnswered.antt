-- The clock call's answer, by its judgement and by what became of the draft.
use Prim.Native.Nat.{ℕ, ◌-◌, min}
use mathlib.Core.Path.{◌≡◌, ◌∙◌, refl, ap, sym, subst}
use mathlib.Core.List.{List}
use mathlib.Core.Bool.{Bool, true, false, cond, not, ◌||◌, ◌&&◌}
use lib.Dec.{ltb, leb, eqb, T as Holds}
use lib.ListN.{length}
use borrow.Author.Tests.{eqb-true}
use Rattle.sender.specs.declared.Sender.{Sender}
use Rattle.std.specs.Prelude.{Some, None, Ok, Err}
use Rattle.packet.specs.declared.Refusal.{Refusal}
use Rattle.text_spec.specs.Front.{front}
use Rattle.base.specs.Arrays.{over}
use Rattle.base.specs.Checks.{checked}
use Rattle.sender_spec.specs.State as State
use Rattle.sender_spec.specs.State.{has_text}
use Rattle.sender_spec.specs.Settings.{settings_number}
use Rattle.sender_spec.specs.Answers.{ClockAnswer, refused, quiet, sent, ClockResult}
use Rattle.sender_spec.specs.Limits.{room_size}
use Rattle.sender_spec.specs.Rate as Rate
use Rattle.sender_spec.specs.Packets.{going, taken, carried, any_text, packet_bytes, after_packet}
use Rattle.sender_spec.proofs.SettingsPass.{Passed, settings_good}
use Rattle.sender_spec.specs.Calls.{clock_of, clock_sent, clock_quiet, sender_at, clock_refused, space_checks}
use Rattle.settings.specs.declared.Due.TheVariants.{Early}
use Rattle.settings.specs.Judging as Judging
use Rattle.settings.specs.Judging.{Judgement, refuses, ready, judged, judgement_of}
use Rattle.slots.specs.Slots.{texts_size}
use Rattle.writer.specs.Draft as Draft
use Rattle.rate.specs.declared.Pace.{Pace}
use Rattle.rate.specs.Circle.{slots_of, spent_in, log_size}
use Rattle.slots.specs.Slots.{rest_kept}
use Rattle.rate.proofs.Circle.{slots_limit}
use Rattle.slots.proofs.Slots.{waiting_length}
use Rattle.settings.specs.State.{settings_of}
use Rattle.writer.specs.Draft.{Answered, draft_packet, clock_answer, put_of}
use Rattle.sender.specs.State.{state_of}
use Rattle.sender.specs.Clocking.{judgement_at, marker_due, taken_bytes, draft_of, record_at, record_behind, pace_behind, texts_behind, log_behind, Clocks}
use Rattle.sender.proofs.Taken.{taken_lies}
use Rattle.sender.proofs.AfterClockCall.{after_is}
use Rattle.sender.proofs.Drafted.{packet_is}

-- 01's result goes by the judgement
module _ (s : State.Sender) (t : ℕ) (p : List ℕ) where
  abbrev has_some : Bool
  has_some = has_text (taken s t) || any_text (carried s t)

  abbrev ready_result : ClockResult
  ready_result = cond has_some (checked (clock_refused s p) (space_checks s t p) (clock_sent s t p)) (clock_quiet s t p)

  abbrev pub result_by : Judgement → ClockResult
  result_by (refuses n) = clock_refused s p n
  result_by Judging.early = clock_quiet s t p
  result_by Judging.first = ready_result
  result_by Judging.later = ready_result

  pub by_judgement : clock_of s t p ≡ result_by (judgement_of s.settings s.clock s.progress t)
  unfolding clock_of
  by_judgement = go (not (eqb (settings_number s.settings) 0)) (ltb t s.clock) s.progress.sent (leb s.settings.buffering (t - s.progress.last))
    where
      go : (a b c d : Bool)
          → cond a (clock_refused s p (settings_number s.settings))
          (cond b (clock_refused s p 5) (cond ((not c || d) && has_some) (checked (clock_refused s p) (space_checks s t p) (clock_sent s t p)) (clock_quiet s t p)))
          ≡ result_by (cond a (refuses (settings_number s.settings)) (cond b (refuses 5) (cond (not c || d) (cond c Judging.later Judging.first) Judging.early)))
      go true b c d = refl
      go false true c d = refl
      go false false true true = refl
      go false false true false = refl
      go false false false d = refl

  -- what is ready passed the settings
  pub ready_passed : ready (judgement_of s.settings s.clock s.progress t) ≡ true → settings_number s.settings ≡ 0
  ready_passed e = go (eqb (settings_number s.settings) 0) refl _ e
    where
      go : (b : Bool) → eqb (settings_number s.settings) 0 ≡ b → (j : Judgement) → ready (cond (not b) (refuses (settings_number s.settings)) j) ≡ true → settings_number s.settings ≡ 0
      go true q j e = eqb-true (settings_number s.settings) 0 q
      go false q j e = absurd (subst Holds (sym e) tt)

  -- and comes to the one result
  ready_result_lem : (j : Judgement) → ready j ≡ true → result_by j ≡ ready_result
  ready_result_lem (refuses n) e = absurd (subst Holds (sym e) tt)
  ready_result_lem Judging.early e = absurd (subst Holds (sym e) tt)
  ready_result_lem Judging.first e = refl
  ready_result_lem Judging.later e = refl

  pub by_ready : ready (judgement_of s.settings s.clock s.progress t) ≡ true → clock_of s t p ≡ ready_result
  by_ready e = by_judgement ∙ ready_result_lem (judgement_of s.settings s.clock s.progress t) e

-- what is asked of an answer with a packet alone
abbrev pub WhereSent : Answered → Type 0 → Type 0
WhereSent (Err q) A = Unit {0}
WhereSent (Ok None) A = Unit {0}
WhereSent (Ok (Some l)) A = A

abbrev pub is_sent : Answered → Bool
is_sent (Err q) = false
is_sent (Ok None) = false
is_sent (Ok (Some l)) = true

pub where_sent : {A : Type 0} (r : Answered) → A → WhereSent r A
where_sent (Err q) a = tt
where_sent (Ok None) a = tt
where_sent (Ok (Some l)) a = a

pub where_not : (A : Type 0) (r : Answered) → is_sent r ≡ false → WhereSent r A
where_not A (Err q) e = tt
where_not A (Ok None) e = tt
where_not A (Ok (Some l)) e = absurd (subst Holds e tt)

-- what changes with a packet alone
module _ (s : Sender) (texts log : List ℕ) (t n k : ℕ) where
  pub sent_behind : (r : Answered) → is_sent r ≡ true
      → (texts_behind r s texts n ≡ rest_kept s.waiting.room s.waiting.len n texts) × (log_behind r s log t k ≡ spent_in (slots_of s.settings.rate) log s.pace.next t k)
  sent_behind (Err q) e = absurd (subst Holds (sym e) tt)
  sent_behind (Ok None) e = absurd (subst Holds (sym e) tt)
  sent_behind (Ok (Some l)) e = (refl, refl)

  pub rest_stays : (r : Answered) → is_sent r ≡ false → (p q : Pace)
      → (texts_behind r s texts n ≡ texts) × (log_behind r s log t k ≡ log) × (record_behind r s t n k p ≡ record_behind r s t n k q)
  rest_stays (Err q) e p p' = (refl, refl, refl)
  rest_stays (Ok None) e p p' = (refl, refl, refl)
  rest_stays (Ok (Some l)) e p p' = absurd (subst Holds e tt)

abbrev sender_for : ClockAnswer → State.Sender → ℕ → State.Sender
sender_for (refused n) s t = s
sender_for quiet s t = sender_at s t
sender_for (sent n) s t = after_packet s t

module _ (s : Sender) (texts log : List ℕ) (t : ℕ) (p : List ℕ) where
  abbrev state : State.Sender
  state = state_of s texts log

  abbrev n : ℕ
  n = length (taken state t)

  abbrev k : ℕ
  k = going state t

  -- a call that comes too early for a packet
  pub early_is : judged (Ok Early) ≡ judgement_at s t → Clocks s texts log t p (Ok None) (record_at s t) texts log p
  early_is e = record { result = ap (result_by state t p) e ∙ sym (by_judgement state t p); fields = refl; bytes = refl; times = refl }

  -- one that is refused
  pub refused_is : (q : Refusal) → judged (Err q) ≡ judgement_at s t → Clocks s texts log t p (Err q) s texts log p
  refused_is q e = record { result = ap (result_by state t p) e ∙ sym (by_judgement state t p); fields = refl; bytes = refl; times = refl }

  abbrev turned : Draft.Result → ClockResult
  turned r = record { answer = r.answer; sender = sender_for r.answer state t; lent = r.lent }

  module _ (size : length texts ≡ texts_size) (known : ready (judgement_at s t) ≡ true) where
    passed : Passed (settings_of s.settings)
    passed = settings_good state.settings (ready_passed state t p known)

    turned_is : turned (put_of (draft_of s t (marker_due s n) n) texts p) ≡ clock_of state t p
    unfolding put_of
    turned_is =
        (λ i. turned
        (cond (has_text (taken_lies s texts log t size i) || any_text (carried state t))
        (cond (ltb (length p) (length (bytes i))) (record { answer = refused 8; lent = p }) (record { answer = sent (length (bytes i)); lent = over (bytes i) p }))
        (record { answer = quiet; lent = p })))
        ∙ go (has_some state t p) (ltb (length p) (length (packet_bytes state t))) ∙ sym (by_ready state t p known)
      where
        bytes : draft_packet (draft_of s t (marker_due s n) n) texts ≡ packet_bytes state t
        bytes = packet_is s texts log t size (ready_passed state t p known)

        go : (b c : Bool)
            → turned
            (cond b (cond c (record { answer = refused 8; lent = p }) (record { answer = sent (length (packet_bytes state t)); lent = over (packet_bytes state t) p }))
            (record { answer = quiet; lent = p }))
            ≡ cond b (cond c (clock_refused state p 8) (clock_sent state t p)) (clock_quiet state t p)
        go true true = refl
        go true false = refl
        go false c = refl

    -- what a draft of what 01 takes comes to; where it is sent, so many times are lent
    answered_is : (r : Answered) (p' : List ℕ) → WhereSent r (length log ≡ log_size) → record { answer = clock_answer r; lent = p' } ≡ put_of (draft_of s t (marker_due s n) n) texts p
        → Clocks s texts log t p r (record_behind r s t n k (pace_behind s k)) (texts_behind r s texts n) (log_behind r s log t k) p'
    answered_is r p' long e = record { result = behind r long ∙ ap turned e ∙ turned_is; fields = refl; bytes = refl; times = refl }
      where
        behind : (r : Answered) → WhereSent r (length log ≡ log_size)
            → record { answer = clock_answer r; sender = state_of (record_behind r s t n k (pace_behind s k)) (texts_behind r s texts n) (log_behind r s log t k); lent = p' } ≡ turned (record { answer = clock_answer r; lent = p' })
        behind (Err q) long = refl
        behind (Ok None) long = refl
        behind (Ok (Some l)) long = ap (λ (x : State.Sender). record { answer = sent l; sender = x; lent = p' }) (after_is s texts log t size long passed)

    -- the same of a draft by what the code counts: c characters wait, of which g may go, in m bytes
    module _ (c g m : ℕ) (tagged : Bool) (counted : c ≡ min s.waiting.characters room_size) (allowed : g ≡ Rate.allowed (slots_of s.settings.rate) state.times t c) (taken : m ≡ taken_bytes texts s.waiting c g) (tags : tagged ≡ marker_due s m) where
      going_is : g ≡ k
      going_is = allowed ∙ (λ i. Rate.allowed (slots_limit s.settings.rate passed.rated.1 i) state.times t (counted i))

      taken_is : m ≡ n
      taken_is =
          taken ∙ (λ i. taken_bytes texts s.waiting (counted i) (going_is i))
          ∙ go (eqb k state.characters)
        where
          go : (b : Bool) → cond b (min s.waiting.len room_size) (length (front k state.waiting)) ≡ length (cond b state.waiting (front k state.waiting))
          go true = sym (waiting_length texts size s.waiting.room s.waiting.len)
          go false = refl

      pub put_is : (r : Answered) (texts' log' p' : List ℕ) → WhereSent r (length log ≡ log_size) → record { answer = clock_answer r; lent = p' } ≡ put_of (draft_of s t tagged m) texts p
          → texts' ≡ texts_behind r s texts m → log' ≡ log_behind r s log t g → Clocks s texts log t p r (record_behind r s t m g (pace_behind s g)) texts' log' p'
      put_is r texts' log' p' long e same there =
          subst (λ (l : List ℕ). Clocks s texts log t p r (record_behind r s t m g (pace_behind s g)) texts' l p') (sym there)
          (subst (λ (l : List ℕ). Clocks s texts log t p r (record_behind r s t m g (pace_behind s g)) l (log_behind r s log t g) p') (sym same)
          (subst (λ (i : ℕ). Clocks s texts log t p r (record_behind r s t m i (pace_behind s i)) (texts_behind r s texts m) (log_behind r s log t i) p') (sym going_is)
          (subst (λ (i : ℕ). Clocks s texts log t p r (record_behind r s t i k (pace_behind s k)) (texts_behind r s texts i) (log_behind r s log t k) p') (sym taken_is)
          (answered_is r p' long (e ∙ (λ i. put_of (draft_of s t (tags i) m) texts p) ∙ ap (λ (i : ℕ). put_of (draft_of s t (marker_due s i) i) texts p) taken_is)))))
