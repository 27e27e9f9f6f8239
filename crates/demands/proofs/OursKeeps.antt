-- What our sender wrote keeps the sending rules.
use Prim.Native.Nat.{ℕ, zero, suc, ◌+◌, ◌≤◌, ◌<◌}
use mathlib.Core.Path.{◌≡◌, ◌∙◌, refl, ap, sym, subst}
use mathlib.Core.List.{List, [], ◌∷◌, ◌++◌, map, map-map}
use mathlib.Core.Bool.{Bool, true, false}
use native.Mathlib.Nat.{add-zero, zero-add, le_refl}
use native.Mathlib.Omega.{arith}
use lib.Dec.{ltb}
use lib.ListN.{length, get_or, get_or-eq_default, length-map}
use borrow.Author.Tests.{ltb-true, ltb-false}
use Rattle.packet_spec.specs.Limits.{level}
use Rattle.packet_spec.specs.Header.{Any, types_bad}
use Rattle.packet_spec.specs.Reading.{Content, holds, refused, reading}
use Rattle.delivery.specs.Numbers.{wrapped}
use Rattle.delivery.specs.Run.{Rules}
use Rattle.sender_spec.specs.State.{SentBlock, Settings, Progress, Sender, fresh_sender}
use Rattle.sender_spec.specs.Settings.{settings_number}
use Rattle.demands.specs.Ours.{ours}
use Rattle.demands.specs.Rules.{IsPacket, KeepsRules}
use Rattle.demands.specs.Sending.{Call, Written, primary_sent, writes, sender_after, written, finally}
use Rattle.demands.specs.Demand2.{ReadBack}
use Rattle.demands.specs.Demand3.{rules_of, packet_at, SpacedAfter}
use Rattle.base.specs.Every.{Every}
use Rattle.base.proofs.Maps.{get_or_map, get_or_map_inside}
use Rattle.sender_spec.proofs.TimesFall.{due_apart}
use Rattle.sender_spec.proofs.StaysSendable.{fresh_good}
use Rattle.sender_spec.proofs.SettingsPass.{settings_good}
use Rattle.demands.proofs.FollowsLog.{block_of, Move, still, moved, sends, move, log_from, rises, rules, At, Packets, follow}
use Rattle.demands.proofs.Demand2.{good_back}

-- packets leave at least the buffering time apart
pub spaced : (cs : List Call) (s : Sender) → SpacedAfter s.progress.sent s.progress.last s.settings.buffering (written ours s cs)
spaced [] s = tt
spaced (c ∷ cs) s = go (sender_after ours s c) (writes ours s c) (move s c) (spaced cs (sender_after ours s c))
  where
    go : (s₁ : Sender) (ws : List Written) → Move s s₁ ws → SpacedAfter s₁.progress.sent s₁.progress.last s₁.settings.buffering (written ours s₁ cs)
        → SpacedAfter s.progress.sent s.progress.last s.settings.buffering (ws ++ written ours s₁ cs)
    go s₁ ws still f = f
    go s₁ ws (moved s₂ l a b m d) f =
        subst (λ (x : Settings). SpacedAfter s.progress.sent s.progress.last x.buffering (written ours s₂ cs)) a
        (subst (λ (x : Progress). SpacedAfter x.sent x.last s₂.settings.buffering (written ours s₂ cs)) d f)
    go s₁ ws (sends t p l n u w) f = (due_apart s t n u, f)

-- a packet past the last one has no bytes, and the reader refuses it
nothing_read : (t140 red : ℕ) (c : Content) → types_bad t140 red ≡ false → reading level Any t140 red [] ≡ holds c → ⊥
unfolding reading
nothing_read t140 red c types e =
    let r : reading level Any t140 red [] ≡ refused 10 = rw types in
    let q : refused 10 ≡ holds c = sym r ∙ e in
    let z : ◌≡◌ {A = ℕ} 0 1 = cc in
    omega arith

-- element k of lists of packets that are the sender's, and that are read back
module _ (R : ℕ) (small : R ≤ level) (first : ℕ) (f : ℕ → SentBlock) where
  packet_at_lem : (ws : List Written) (n k : ℕ) (d : Written) → Packets R small first f n ws → k < length ws
      → IsPacket (rules R small first f) (n + k) (get_or ws k d).content
  packet_at_lem [] n k d h l = absurd (omega arith)
  packet_at_lem (w ∷ ws) n zero d h l = subst (λ (j : ℕ). IsPacket (rules R small first f) j w.content) (sym (add-zero n)) h.0
  packet_at_lem (w ∷ ws) n (suc k) d h l =
      let e : suc n + k ≡ n + suc k = omega arith in
      subst (λ (j : ℕ). IsPacket (rules R small first f) j (get_or ws k d).content) e (packet_at_lem ws (suc n) k d h.1 (omega arith))

back_at : (x : Settings) (ws : List Written) (k : ℕ) (d : Written) → Every (ReadBack ours x) ws → k < length ws
    → reading level Any x.t140 x.red (get_or ws k d).packet ≡ holds (get_or ws k d).content
back_at x [] k d h l = absurd (omega arith)
back_at x (w ∷ ws) zero d h l = h.0.read Any tt
back_at x (w ∷ ws) (suc k) d h l = back_at x ws k d h.1 (omega arith)

module _ (x : Settings) (calls : List Call) (good : settings_number x ≡ 0) where
  abbrev pub ws : List Written
  ws = written ours (fresh_sender x) calls

  -- past the last packet the log has empty blocks at the last clock
  abbrev pub beyond : SentBlock
  beyond = record { text = []; at = (finally ours (fresh_sender x) calls).clock }

  abbrev pub log : ℕ → SentBlock
  log = log_from (fresh_sender x) calls beyond

  pub log_rises : (k : ℕ) → (log k).at ≤ (log (suc k)).at
  log_rises = rises calls (fresh_sender x) beyond (le_refl beyond.at)

  pub small : x.level ≤ level
  small = (settings_good x good).few

  types : types_bad x.t140 x.red ≡ false
  types = (settings_good x good).typed

  abbrev ours_rules : Rules
  ours_rules = rules x.level small x.sequence log

  start : At x.level small x.sequence log (fresh_sender x) 0
  start = record { level_is = refl; next_is = ap wrapped (sym (add-zero x.sequence)); kept_is = refl }

  pub packets : Packets x.level small x.sequence log 0 ws
  packets = follow x.level small x.sequence log calls (fresh_sender x) 0 beyond start (λ i. ap log (zero-add i))

  reads : (k : ℕ) (c : Content) → reading level Any x.t140 x.red (packet_at ws k) ≡ holds c → IsPacket ours_rules k c
  reads k c e = go (ltb k (length ws)) refl
    where
      none : Written
      none = record { packet = []; time = 0; content = c }

      go : (b : Bool) → ltb k (length ws) ≡ b → IsPacket ours_rules k c
      go true l =
          let h : k < length ws = ltb-true k (length ws) l in
          let w = get_or ws k none in
          let q : reading level Any x.t140 x.red w.packet ≡ holds c =
          ap (reading level Any x.t140 x.red) (sym (get_or_map_inside (λ v. v.packet) ws k none [] h)) ∙ e in
          let r : holds w.content ≡ holds c = sym (back_at x ws k none (good_back x calls (fresh_sender x) refl (fresh_good x)) h) ∙ q in
          let s : w.content ≡ c = cc in
          subst (IsPacket ours_rules k) s
          (subst (λ (j : ℕ). IsPacket ours_rules j w.content) (zero-add k) (packet_at_lem x.level small x.sequence log ws 0 k none packets h))
      go false l =
          let h : length ws ≤ k = ltb-false k (length ws) l in
          let n : length (map (λ w. w.packet) ws) ≡ length ws = length-map ws (λ w. w.packet) in
          let q : packet_at ws k ≡ [] = get_or-eq_default (map (λ w. w.packet) ws) [] (omega arith) in
          absurd (nothing_read x.t140 x.red c types (ap (reading level Any x.t140 x.red) (sym q) ∙ e))

  -- the rules as the demand has them
  same_block : (k : ℕ) → (log k).text ≡ get_or (map primary_sent ws) k []
  same_block k = sym (get_or_map (λ (b : SentBlock). b.text) (map block_of ws) k beyond) ∙ ap (λ (l : List (List ℕ)). get_or l k []) (map-map (λ (b : SentBlock). b.text) block_of ws)

  same_time : (k : ℕ) → (log k).at ≡ get_or (map (λ w. w.time) ws) k beyond.at
  same_time k = sym (get_or_map (λ (b : SentBlock). b.at) (map block_of ws) k beyond) ∙ ap (λ (l : List ℕ). get_or l k beyond.at) (map-map (λ (b : SentBlock). b.at) block_of ws)

  same_rules : ours_rules ≡ rules_of x ws beyond.at
  same_rules i = record { level = x.level; first = x.sequence; block = λ k. same_block k i; time = λ k. same_time k i }

  pub keeps : KeepsRules x.t140 x.red (rules_of x ws beyond.at) (packet_at ws)
  keeps = subst (λ (r : Rules). KeepsRules x.t140 x.red r (packet_at ws)) same_rules (record { small = small; rises = log_rises; reads = reads })
