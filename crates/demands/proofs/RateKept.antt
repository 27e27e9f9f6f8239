-- Along a list of calls our sender keeps the last of the times of all characters that it sent, and no window has too many.
use Prim.Native.Nat.{ℕ, ◌+◌, ◌-◌, ◌≤◌, min}
use mathlib.Core.Path.{◌≡◌, ◌∙◌, refl, ap, ap₂, sym}
use mathlib.Core.List.{List, [], ◌∷◌, ◌++◌, append_assoc, append-nil}
use mathlib.Core.Bool.{true}
use native.Mathlib.Omega.{arith}
use lib.ListN.{length, take, drop, replicate}
use lib.Seq.{take-nil}
use borrow.Author.Tests.{le-leb}
use Rattle.base.specs.Every.{Every}
use Rattle.text_spec.specs.Front.{counted, front}
use Rattle.sender_spec.specs.State.{Settings, Progress, Sender, fresh_sender}
use Rattle.sender_spec.specs.Rate.{window, limit_of, allowed}
use Rattle.sender_spec.specs.Packets.{going, taken, ready_at, content_of, packet_bytes, after_packet}
use Rattle.demands.specs.Ours.{ours}
use Rattle.demands.specs.Sending.{Call, Written, writes, sender_after, written, finally}
use Rattle.demands.specs.Rate.{LongestFront}
use Rattle.base.proofs.EveryLaws.{every_behind}
use Rattle.text_spec.proofs.FrontLaws.{front_rest, front_counts, front_min, front_longest}
use Rattle.sender_spec.proofs.StaysSendable.{Good, fresh_good, taken_front, taken_counts}
use Rattle.sender_spec.proofs.Allowed.{within, Falls, falls_to, falls_more, allowed_is, keeps_last, limit_kept}
use Rattle.demands.proofs.FollowsLog.{Move, still, moved, sends, move}
use Rattle.demands.proofs.Demand2.{after_good}
use Rattle.demands.proofs.RateTimes.{times_of, one_more}

-- the buffering time is over at t
abbrev pub Over : Settings → ℕ → List Written → Type 0
Over x t ws = Every (λ (w : Written). w.time + x.buffering ≤ t) ws

-- a sender with these settings that has written these packets
pub record Kept (x : Settings) (s : Sender) (ws : List Written) : Type 0 where
  pub good : Good s
  pub settings : s.settings ≡ x
  pub times : s.times ≡ take (limit_of x) (times_of ws)
  pub falls : Falls s.clock (times_of ws)
  pub limit : (a : ℕ) → within a (a + window) (times_of ws) ≤ limit_of x
  pub ready : (t : ℕ) → Over x t ws → ready_at x.buffering s.progress t ≡ true

pub fresh_kept : (x : Settings) → Kept x (fresh_sender x) []
fresh_kept x = record {
  good = fresh_good x;
  settings = refl;
  times = sym (take-nil (limit_of x));
  falls = tt;
  limit = λ a. omega arith;
  ready = λ t o. refl;
}

-- a packet at t
module _ (x : Settings) (s : Sender) (ws : List Written) (k : Kept x s ws) (t : ℕ) (later : s.clock ≤ t) where
  abbrev room : ℕ
  room = limit_of x - within (t - window) t (times_of ws)

  going_is : going s t ≡ min s.characters room
  going_is =
      ap₂ (λ (y : Settings) (times : List ℕ). allowed (limit_of y) times t s.characters) k.settings k.times
      ∙ allowed_is t (limit_of x) (times_of ws) (falls_to s.clock t (times_of ws) later k.falls) s.characters

  taken_is : taken s t ≡ front room s.waiting
  taken_is =
      let e : going s t ≡ min room s.characters = omega (arith, going_is) in
      taken_front s t k.good ∙ ap (λ (n : ℕ). front n s.waiting) e ∙ front_min room s.characters s.waiting k.good.counts

  pub takes_longest : LongestFront room s.waiting (taken s t)
  takes_longest = rw taken_is (record {
    rest = drop (length (front room s.waiting)) s.waiting;
    is_front = front_rest room s.waiting;
    count = min room s.characters;
    whole = front_counts room s.characters s.waiting k.good.counts;
    fits = omega arith;
    no_longer = λ y z n e c h. front_longest room n s.waiting y z k.good.waiting.0 (sym e) c h;
  })

  module _ (p : List ℕ) where
    abbrev packet : Written
    packet = record { packet = p; time = t; content = content_of s t }

    times_are : times_of (ws ++ packet ∷ []) ≡ replicate (going s t) t ++ times_of ws
    times_are = one_more ws packet ∙ ap (λ (n : ℕ). replicate n t ++ times_of ws) (ap counted (taken_counts s t k.good))

    sent_kept : Good (after_packet s t) → Kept x (after_packet s t) (ws ++ packet ∷ [])
    sent_kept g = record {
      good = g;
      settings = k.settings;
      times = ap₂ (λ (y : Settings) (times : List ℕ). take (limit_of y) (replicate (going s t) t ++ times)) k.settings k.times
          ∙ keeps_last (limit_of x) (going s t) t (times_of ws) ∙ ap (take (limit_of x)) (sym times_are);
      falls = rw times_are (falls_more s.clock t (going s t) (times_of ws) later k.falls);
      limit = rw times_are (limit_kept (limit_of x) (going s t) t s.clock (times_of ws) k.falls later (omega (arith, going_is)) k.limit);
      ready = λ u o. le-leb x.buffering (u - t) (let h = (every_behind (λ (w : Written). w.time + x.buffering ≤ u) ws (packet ∷ []) o).0 in omega arith);
    }

call_kept : (x : Settings) (s : Sender) (ws : List Written) (c : Call) → Kept x s ws → Kept x (sender_after ours s c) (ws ++ writes ours s c)
call_kept x s ws c k = go (sender_after ours s c) (writes ours s c) (move s c) (after_good s c k.good)
  where
    go : (s₁ : Sender) (vs : List Written) → Move s s₁ vs → Good s₁ → Kept x s₁ (ws ++ vs)
    go s₁ vs still g = rw (append-nil ws) k
    go s₁ vs (moved s₂ l a b m d) g =
        rw (append-nil ws)
        (record {
          good = g;
          settings = a ∙ k.settings;
          times = m ∙ k.times;
          falls = falls_to s.clock s₂.clock (times_of ws) l k.falls;
          limit = k.limit;
          ready = λ t o. ap (λ (p : Progress). ready_at x.buffering p t) d ∙ k.ready t o;
        })
    go s₁ vs (sends t p l n u e) g = sent_kept x s ws k t l (take (length (packet_bytes s t)) p) g

-- from a sender that has written ws
pub calls_kept : (x : Settings) (cs : List Call) (s : Sender) (ws : List Written) → Kept x s ws → Kept x (finally ours s cs) (ws ++ written ours s cs)
calls_kept x [] s ws k = rw (append-nil ws) k
calls_kept x (c ∷ cs) s ws k = rw (← append_assoc ws (writes ours s c) (written ours (sender_after ours s c) cs)) (calls_kept x cs (sender_after ours s c) (ws ++ writes ours s c) (call_kept x s ws c k))
