-- The blocks that a sender keeps were sent at times that fall strictly, newest first: packets leave at least 1 ms apart.
use Prim.Native.Nat.{ℕ, zero, suc, ◌+◌, ◌-◌, ◌≤◌, ◌<◌}
use mathlib.Core.Path.{◌≡◌}
use mathlib.Core.List.{List, [], ◌∷◌}
use mathlib.Core.Bool.{Bool, true, false, cond, not, ◌||◌}
use native.Mathlib.Omega.{arith}
use lib.Dec.{leb}
use lib.ListN.{take}
use borrow.Author.Tests.{leb-true}
use Rattle.base.proofs.Tests.{by_test, and_left}
use Rattle.sender_spec.specs.Settings.{settings_number}
use Rattle.sender_spec.specs.State.{SentBlock, Progress, Sender}
use Rattle.sender_spec.specs.Packets.{ready_at, due}
use Rattle.sender_spec.proofs.SettingsPass.{settings_good}

-- each was sent before the one in front of it, the newest before t
abbrev pub TimesFall : ℕ → List SentBlock → Type 0
TimesFall t [] = Unit {0}
TimesFall t (b ∷ bs) = (b.at < t) × TimesFall b.at bs

times_later : (a t : ℕ) (bs : List SentBlock) → a ≤ t → TimesFall a bs → TimesFall t bs
times_later a t [] l h = tt
times_later a t (b ∷ bs) l h = (omega (arith, h.0), h.1)

pub times_take : (t n : ℕ) (bs : List SentBlock) → TimesFall t bs → TimesFall t (take n bs)
times_take t zero bs h = tt
times_take t (suc n) [] h = tt
times_take t (suc n) (b ∷ bs) h = (h.0, times_take b.at n bs h.1)

-- the first clock behind every packet sent
abbrev pub behind_last : Progress → ℕ
behind_last p = cond p.sent (suc p.last) 0

follows : (a b : Bool) → a ≡ true → (not a || b) ≡ true → b ≡ true
follows true b e h = h
follows false b e h = absurd (let z : ◌≡◌ {A = ℕ} 0 1 = cc in omega arith)

-- a packet that is due leaves the buffering time, 1 ms or more, behind the last one: so every block kept was sent before it
module _ (s : Sender) (t : ℕ) (ok : settings_number s.settings ≡ 0) (is_due_lem : due s t ≡ true) where
  abbrev waits : 1 ≤ s.settings.buffering
  waits = (settings_good s.settings ok).buffered.0

  pub due_apart : s.progress.sent ≡ true → s.progress.last + s.settings.buffering ≤ t
  due_apart e =
      let b = s.settings.buffering in
      let ready : ready_at b s.progress t ≡ true = and_left (ready_at b s.progress t) _ is_due_lem in
      let apart : leb b (t - s.progress.last) ≡ true = follows s.progress.sent _ e ready in
      omega (arith, leb-true b (t - s.progress.last) apart, waits)

  due_behind : behind_last s.progress ≤ t
  due_behind = by_test (λ (n : ℕ). n ≤ t) s.progress.sent (λ e. omega (arith, due_apart e, waits)) (λ e. omega arith)

  pub due_fall : TimesFall (behind_last s.progress) s.kept → TimesFall t s.kept
  due_fall = times_later (behind_last s.progress) t s.kept due_behind
