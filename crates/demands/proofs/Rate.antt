-- Our line keeps the rate.
use Prim.Native.Nat.{ℕ, ◌+◌, ◌-◌, ◌*◌, ◌≤◌}
use mathlib.Core.Path.{◌≡◌, sym, subst}
use mathlib.Core.List.{List, [], ◌∷◌, ◌++◌}
use mathlib.Core.Bool.{Bool, true, false, ◌&&◌, ◌||◌}
use native.Mathlib.Omega.{arith}
use lib.ListN.{length}
use borrow.Author.Tests.{ltb-false}
use Rattle.base.specs.Every.{Every}
use Rattle.sender_spec.specs.State.{Settings, Sender, fresh_sender, has_text}
use Rattle.sender_spec.specs.Answers as answers
use Rattle.sender_spec.specs.Answers.{ClockResult}
use Rattle.sender_spec.specs.Packets.{taken, carried, any_text, ready_at, content_of}
use Rattle.sender_spec.specs.Calls.{open_sender, clock_of}
use Rattle.demands.specs.Ours.{ours}
use Rattle.demands.specs.Sending.{Call, clock, Written, written_by, writes, written, finally, sent_by, left_by}
use Rattle.demands.specs.Demand2.{ReadBack}
use Rattle.demands.specs.Rate.{primary_read, characters_within, spare, LongestFront, Rate}
use Rattle.base.proofs.Tests.{or_left}
use Rattle.base.proofs.Fronts.{empty}
use Rattle.sender_spec.proofs.ChecksPassed.{open_passed}
use Rattle.sender_spec.proofs.Shapes as shapes
use Rattle.sender_spec.proofs.Shapes.{Clock, clock_shape}
use Rattle.demands.proofs.Demand2.{good_back, demand_2}
use Rattle.demands.proofs.RateTimes.{as_read, counted_by_times}
use Rattle.demands.proofs.RateKept.{Over, Kept, fresh_kept, takes_longest, calls_kept}

-- what is true of what a packet takes is true of the primary read of what a clock call writes
sends : (P : List ℕ → Type 0) (x : Settings) (s : Sender) (t : ℕ) (p : List ℕ) → (s.clock ≤ t → P (taken s t)) → Every (ReadBack ours x) (writes ours s (clock t p) ++ [])
    → Every (λ (w : Written). P (primary_read x w)) (writes ours s (clock t p))
sends P x s t p h = go (clock_of s t p) (clock_shape s t p)
  where
    go : (r : ClockResult) → Clock s t p r → Every (ReadBack ours x) (written_by r.answer r.lent t (content_of s t) ++ [])
        → Every (λ (w : Written). P (primary_read x w)) (written_by r.answer r.lent t (content_of s t))
    go r (shapes.refused n) e = tt
    go r (shapes.quiet l d) e = tt
    go r (shapes.sent o l d f) e = (subst P (sym (as_read x _ e.0)) (h l), tt)

-- a packet that could leave, and does not, would take nothing
takes_nothing : (s : Sender) (t : ℕ) (p : List ℕ) → ready_at s.settings.buffering s.progress t ≡ true → (clock_of s t p).answer ≡ answers.quiet
    → (s.clock ≤ t) × (taken s t ≡ [])
takes_nothing s t p ready = go (clock_of s t p) (clock_shape s t p)
  where
    none : (a : Bool) → a ≡ true → (a && (has_text (taken s t) || any_text (carried s t))) ≡ false → has_text (taken s t) ≡ false
    none true h e = or_left (has_text (taken s t)) (any_text (carried s t)) e
    none false h e = absurd (let z : ◌≡◌ {A = ℕ} 0 1 = cc in omega arith)

    go : (r : ClockResult) → Clock s t p r → r.answer ≡ answers.quiet → (s.clock ≤ t) × (taken s t ≡ [])
    go r (shapes.refused n) e = absurd (let z : ◌≡◌ {A = ℕ} 0 1 = cc in omega arith)
    go r (shapes.quiet l d) e =
        (l, empty (taken s t) (let h = ltb-false 0 (length (taken s t)) (none (ready_at s.settings.buffering s.progress t) ready d) in omega arith))
    go r (shapes.sent o l d f) e = absurd (let z : ◌≡◌ {A = ℕ} 0 1 = cc in omega arith)

module _ (x : Settings) (calls : List Call) (o : (open_sender x).number ≡ 0) where
  abbrev s : Sender
  s = left_by ours x calls

  abbrev ws : List Written
  ws = sent_by ours x calls

  kept : Kept x s ws
  kept = subst (λ (s : Sender). Kept x (finally ours s calls) (written ours s calls)) (sym (open_passed x o).1) (calls_kept x calls (fresh_sender x) [] (fresh_kept x))

  back : Every (ReadBack ours x) ws
  back = demand_2.read_back x calls o

  limit : (a : ℕ) → characters_within x a (a + 10000) ws ≤ 10 * x.rate
  limit a = rw (counted_by_times x a (a + 10000) ws back) (kept.limit a)

  takes : (t : ℕ) → s.clock ≤ t → LongestFront (spare x ws t) s.waiting (taken s t)
  takes t l =
      subst (λ (n : ℕ). LongestFront (10 * x.rate - n) s.waiting (taken s t)) (sym (counted_by_times x (t - 10000) t ws back)) (takes_longest x s ws kept t l)

  longest : (t : ℕ) (p : List ℕ) → Every (λ (w : Written). LongestFront (spare x ws t) s.waiting (primary_read x w)) (writes ours s (clock t p))
  longest t p = sends (LongestFront (spare x ws t) s.waiting) x s t p (takes t) (good_back x (clock t p ∷ []) s kept.settings kept.good)

  quiet : (t : ℕ) (p : List ℕ) → Over x t ws → (clock_of s t p).answer ≡ answers.quiet → LongestFront (spare x ws t) s.waiting []
  quiet t p h e =
      let ready = subst (λ (y : Settings). ready_at y.buffering s.progress t ≡ true) (sym kept.settings) (kept.ready t h) in
      let (l, is) = takes_nothing s t p ready e in
      subst (LongestFront (spare x ws t) s.waiting) is (takes t l)

pub rate_claim : Rate ours
rate_claim = record { limit = limit; longest = longest; quiet = quiet }
