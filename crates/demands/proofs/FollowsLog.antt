-- Along a list of calls our sender follows the log of what it wrote: packet k has number k, block k, and the run of 01.
use Prim.Native.Nat.{ℕ, zero, suc, ◌+◌, ◌-◌, ◌≤◌}
use mathlib.Core.Path.{◌≡◌, ◌∙◌, refl, ap, ap₂, sym, subst}
use mathlib.Core.List.{List, [], ◌∷◌, ◌++◌, map, map-map, reverse}
use mathlib.Core.Bool.{true}
use native.Mathlib.Nat.{add-zero, le_trans, le_refl}
use native.Mathlib.Omega.{arith}
use lib.ListN.{length, take, drop, get_or}
use lib.Seq.{take-append_seam}
use Rattle.base.specs.Arrays.{over}
use Rattle.packet_spec.specs.Limits.{level}
use Rattle.delivery.specs.Numbers.{wrapped, next}
use Rattle.delivery.specs.Sending.{range}
use Rattle.delivery.specs.Run.{run, oldest_of, Rules}
use Rattle.sender_spec.specs.State.{SentBlock, Sender}
use Rattle.sender_spec.specs.Answers.{CallResult, ClockResult}
use Rattle.sender_spec.specs.Offering.{sender_with}
use Rattle.sender_spec.specs.Calls.{offer_of, clock_of}
use Rattle.sender_spec.specs.Packets.{due, packet_bytes, recent_run, carried, taken, content_of, repeated, after_packet}
use Rattle.sender_spec.specs.Settings.{settings_number}
use Rattle.demands.specs.Ours.{ours}
use Rattle.demands.specs.Rules.{IsPacket}
use Rattle.demands.specs.Sending.{Call, offer, clock, Written, written_by, writes, sender_after, written, finally}
use Rattle.delivery.proofs.OldestBlock.{run_within}
use Rattle.sender_spec.proofs.Shapes as shapes
use Rattle.sender_spec.proofs.Shapes.{Offer, Clock, offer_shape, clock_shape}
use Rattle.demands.proofs.KeptIsLog.{down, take_down, keep_down, recent_down, reverse_down}

-- the block of a packet
abbrev pub block_of : Written → SentBlock
block_of w = record { text = w.content.primary; at = w.time }

-- what a call can do to a sender, as far as the log goes
pub data Move (s : Sender) : Sender → List Written → Type 0 where
  still : Move s s []
  moved : (s₁ : Sender) → s.clock ≤ s₁.clock → s₁.settings ≡ s.settings → s₁.kept ≡ s.kept → s₁.times ≡ s.times → s₁.progress ≡ s.progress
      → Move s s₁ []
  sends : (t : ℕ) (p : List ℕ) → s.clock ≤ t → settings_number s.settings ≡ 0 → due s t ≡ true → take (length (packet_bytes s t)) p ≡ packet_bytes s t
      → Move s (after_packet s t) (record { packet = take (length (packet_bytes s t)) p; time = t; content = content_of s t } ∷ [])

pub move : (s : Sender) (c : Call) → Move s (sender_after ours s c) (writes ours s c)
move s (offer t x) = go (offer_of s t x) (offer_shape s t x)
  where
    go : (r : CallResult) → Offer s t x r → Move s r.sender []
    go r (shapes.refused n h) = still
    go r (shapes.joined a b c d) = moved (sender_with s t x) b refl refl refl refl
move s (clock t p) = go (clock_of s t p) (clock_shape s t p)
  where
    go : (r : ClockResult) → Clock s t p r → Move s r.sender (written_by r.answer r.lent t (content_of s t))
    go r (shapes.refused n) = still
    go r (shapes.quiet a b) = moved _ a refl refl refl refl
    go r (shapes.sent a b c d) = sends t (over (packet_bytes s t) p) b a c (take-append_seam (packet_bytes s t) (drop (length (packet_bytes s t)) p))

-- the log from a sender on: the blocks of the packets written, then d
abbrev pub log_from : Sender → List Call → SentBlock → ℕ → SentBlock
log_from s cs d k = get_or (map block_of (written ours s cs)) k d

-- no time is below the clock before the calls, and times never fall
low : (cs : List Call) (s : Sender) (d : SentBlock) → (finally ours s cs).clock ≤ d.at → (k : ℕ) → s.clock ≤ (log_from s cs d k).at
low [] s d h k = h
low (c ∷ cs) s d h k = go (sender_after ours s c) (writes ours s c) (move s c) h (low cs (sender_after ours s c) d) k
  where
    go : (s₁ : Sender) (ws : List Written) → Move s s₁ ws → (finally ours s₁ cs).clock ≤ d.at
        → ((finally ours s₁ cs).clock ≤ d.at → (k : ℕ) → s₁.clock ≤ (log_from s₁ cs d k).at)
        → (k : ℕ) → s.clock ≤ (get_or (map block_of (ws ++ written ours s₁ cs)) k d).at
    go s₁ ws still h f k = f h k
    go s₁ ws (moved s₂ l a b m e) h f k = le_trans l (f h k)
    go s₁ ws (sends t p l x y z) h f zero = l
    go s₁ ws (sends t p l x y z) h f (suc k) = le_trans l (f h k)

pub rises : (cs : List Call) (s : Sender) (d : SentBlock) → (finally ours s cs).clock ≤ d.at → (k : ℕ) → (log_from s cs d k).at ≤ (log_from s cs d (suc k)).at
rises [] s d h k = le_refl d.at
rises (c ∷ cs) s d h k = go (sender_after ours s c) (writes ours s c) (move s c) h (low cs (sender_after ours s c) d) (rises cs (sender_after ours s c) d) k
  where
    go : (s₁ : Sender) (ws : List Written) → Move s s₁ ws → (finally ours s₁ cs).clock ≤ d.at
        → ((finally ours s₁ cs).clock ≤ d.at → (k : ℕ) → s₁.clock ≤ (log_from s₁ cs d k).at)
        → ((finally ours s₁ cs).clock ≤ d.at → (k : ℕ) → (log_from s₁ cs d k).at ≤ (log_from s₁ cs d (suc k)).at)
        → (k : ℕ) → (get_or (map block_of (ws ++ written ours s₁ cs)) k d).at ≤ (get_or (map block_of (ws ++ written ours s₁ cs)) (suc k) d).at
    go s₁ ws still h lo f k = f h k
    go s₁ ws (moved s₂ l a b m e) h lo f k = f h k
    go s₁ ws (sends t p l x y z) h lo f zero = lo h 0
    go s₁ ws (sends t p l x y z) h lo f (suc k) = f h k

module _ (R : ℕ) (small : R ≤ level) (first : ℕ) (f : ℕ → SentBlock) where
  abbrev pub rules : Rules
  rules = record { level = R; first = first; block = λ k. (f k).text; time = λ k. (f k).at }

  -- the sender's number is n, and its kept blocks are the last of the log before n
  pub record At (s : Sender) (n : ℕ) : Type 0 where
    pub level_is : s.settings.level ≡ R
    pub next_is : s.progress.next ≡ wrapped (first + n)
    pub kept_is : s.kept ≡ down f n level

  -- what it would carry is the run of the log
  carried_is : (s : Sender) (n : ℕ) → At s n → carried s (f n).at ≡ down f n (run (λ k. (f k).at) (f n).at R n)
  carried_is s n a =
      let k : take s.settings.level s.kept ≡ down f n R =
      ap₂ {C = List SentBlock} (λ r bs. take r bs) a.level_is a.kept_is ∙ take_down f n R level small in
      ap (recent_run (f n).at) k ∙ recent_down f (f n).at R n

  texts_down : (n m : ℕ) → m ≤ n → map (λ b. b.text) (reverse (down f n m)) ≡ map (λ k. (f k).text) (range (n - m) (n - (n - m)))
  texts_down n m w =
      let c : n - (n - m) ≡ m = omega arith in
      ap (map (λ b. b.text)) (reverse_down f n m w)
      ∙ map-map (λ b. b.text) f (range (n - m) m)
      ∙ ap (λ i. map (λ k. (f k).text) (range (n - m) i)) (sym c)

  older_is : (s : Sender) (n : ℕ) → At s n
      → map (λ b. b.bytes) (content_of s (f n).at).older ≡ map (λ k. (f k).text) (range (oldest_of R (λ k. (f k).at) n) (n - oldest_of R (λ k. (f k).at) n))
  older_is s n a =
      map-map (λ b. b.bytes) (repeated (f n).at) (reverse (carried s (f n).at))
      ∙ ap (λ l. map (λ b. b.text) (reverse l)) (carried_is s n a)
      ∙ texts_down n (run (λ k. (f k).at) (f n).at R n) (run_within (λ k. (f k).at) (f n).at R n)

  is_packet : (s : Sender) (n t : ℕ) → At s n → f n ≡ record { text = taken s t; at = t } → IsPacket rules n (content_of s t)
  is_packet s n t a e =
      let q : (f n).at ≡ t = ap (λ x. x.at) e in
      record {
        sequence = a.next_is;
        primary = sym (ap (λ x. x.text) e);
        older = subst (λ i. map (λ b. b.bytes) (content_of s i).older ≡ map (λ k. (f k).text) (range (oldest_of R (λ k. (f k).at) n) (n - oldest_of R (λ k. (f k).at) n))) q (older_is s n a);
      }

  kept_after_lem : (s : Sender) (n t : ℕ) → At s n → f n ≡ record { text = taken s t; at = t } → (after_packet s t).kept ≡ down f (suc n) level
  kept_after_lem s n t a e = ap₂ {C = List SentBlock} (λ y ys. take level (y ∷ ys)) (sym e) a.kept_is ∙ keep_down f n level

  -- packets that are the sender's from number n on
  abbrev pub Packets : ℕ → List Written → Type 0
  Packets n [] = Unit {0}
  Packets n (w ∷ ws) = IsPacket rules n w.content × Packets (suc n) ws

  pub follow : (cs : List Call) (s : Sender) (n : ℕ) (d : SentBlock) → At s n → ((i : ℕ) → f (n + i) ≡ log_from s cs d i) → Packets n (written ours s cs)
  follow [] s n d a g = tt
  follow (c ∷ cs) s n d a g = go (sender_after ours s c) (writes ours s c) (move s c) (λ s₁ n₁. follow cs s₁ n₁ d) g
    where
      go : (s₁ : Sender) (ws : List Written) → Move s s₁ ws
          → ((s₂ : Sender) (n₂ : ℕ) → At s₂ n₂ → ((i : ℕ) → f (n₂ + i) ≡ log_from s₂ cs d i) → Packets n₂ (written ours s₂ cs))
          → ((i : ℕ) → f (n + i) ≡ get_or (map block_of (ws ++ written ours s₁ cs)) i d)
          → Packets n (ws ++ written ours s₁ cs)
      go s₁ ws still ih g = ih s n a g
      go s₁ ws (moved s₂ l x y m z) ih g =
          ih s₂ n (record {
            level_is = ap (λ q. q.level) x ∙ a.level_is;
            next_is = ap (λ q. q.next) z ∙ a.next_is;
            kept_is = y ∙ a.kept_is;
          }) g
      go s₁ ws (sends t p l x y z) ih g =
          let e : f n ≡ record { text = taken s t; at = t } = ap f (sym (add-zero n)) ∙ g 0 in
          let q : s.progress.next ≡ wrapped (first + n) = a.next_is in
          let u : next s.progress.next ≡ wrapped (first + suc n) = omega arith in (
            is_packet s n t a e,
            ih (after_packet s t) (suc n) (record { level_is = a.level_is; next_is = u; kept_is = kept_after_lem s n t a e })
                (λ i. let j : suc n + i ≡ n + suc i = omega arith in ap f j ∙ g (suc i)),
          )
