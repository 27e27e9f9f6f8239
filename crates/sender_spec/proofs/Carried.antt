-- The blocks that a packet carries: few, recent, of ages that fall, and such as may be sent.
use Prim.Native.Nat.{ℕ, suc, ◌-◌, ◌≤◌, ◌<◌}
use mathlib.Core.Path.{◌≡◌, refl}
use mathlib.Core.List.{List, [], ◌∷◌, map, reverse, reverse_aux}
use mathlib.Core.Bool.{true}
use native.Mathlib.Omega.{arith}
use lib.ListN.{length, get_or, take, length-take, length-map, length-reverse}
use borrow.Author.Tests.{lt-ltb, leb-true}
use Rattle.packet_spec.specs.Redundancy
use Rattle.packet_spec.specs.Redundancy.{falling, offsets}
use Rattle.delivery.specs.Run.{oldest_age}
use Rattle.sender_spec.specs.Settings.{settings_number}
use Rattle.sender_spec.specs.State.{SentBlock, Sender}
use Rattle.sender_spec.specs.Packets.{recent, recent_run, carried, repeated, due, content_of}
use Rattle.base.proofs.Tests.{by_test, both}
use Rattle.base.specs.Every.{Every}
use Rattle.base.proofs.EveryLaws.{every_take, every_reverse, every_map}
use Rattle.sender_spec.proofs.TimesFall.{TimesFall, times_take, due_fall}
use Rattle.sender_spec.proofs.StaysSendable.{Sendable, AllSendable, Good}

-- an older block of a packet
abbrev pub Repeatable : Redundancy.Block → Type 0
Repeatable b = Sendable b.bytes × (b.offset ≤ oldest_age)

module _ (t : ℕ) where
  abbrev Carriable : SentBlock → Type 0
  Carriable b = Repeatable (repeated t b)

  run_good : (bs : List SentBlock) → AllSendable bs → Every Carriable (recent_run t bs)
  run_good [] e = tt
  run_good (b ∷ bs) e = by_test (Every Carriable) (recent t b) (λ r. ((e.0, leb-true (t - b.at) oldest_age r), run_good bs e.1)) (λ r. tt)

  pub run_few : (bs : List SentBlock) → length (recent_run t bs) ≤ length bs
  run_few [] = omega arith
  run_few (b ∷ bs) = by_test (λ (l : List SentBlock). length l ≤ suc (length bs)) (recent t b) (λ r. let h = run_few bs in omega arith) (λ r. omega arith)

  run_fall : (a : ℕ) (bs : List SentBlock) → TimesFall a bs → TimesFall a (recent_run t bs)
  run_fall a [] h = tt
  run_fall a (b ∷ bs) h = by_test (TimesFall a) (recent t b) (λ r. (h.0, run_fall b.at bs h.1)) (λ r. tt)

  abbrev ages : List SentBlock → List ℕ
  ages bs = offsets (map (repeated t) bs)

  -- in front of blocks whose ages fall, the oldest of them sent at a or later
  fall_onto : (a : ℕ) (bs cs : List SentBlock) → a ≤ t → TimesFall a bs → get_or (ages cs) 0 0 ≤ t - a → falling (ages cs) ≡ true → falling (ages (reverse_aux bs cs)) ≡ true
  fall_onto a [] cs l h k e = e
  fall_onto a (b ∷ bs) cs l h k e =
      let n : b.at < a = h.0 in
      fall_onto b.at bs (b ∷ cs) (omega arith) h.1 (omega arith) (both (lt-ltb (get_or (ages cs) 0 0) (t - b.at) (omega arith)) e)

module _ (s : Sender) (t : ℕ) where
  pub carried_few : length (carried s t) ≤ s.settings.level
  carried_few = omega (arith, run_few t (take s.settings.level s.kept), length-take s.settings.level s.kept)

  pub older_few : length (content_of s t).older ≤ s.settings.level
  older_few = let h = carried_few in omega (arith, length-map (reverse (carried s t)) (repeated t), length-reverse (carried s t))

  pub older_good : Good s → Every Repeatable (content_of s t).older
  older_good g =
      let n = s.settings.level in
      let k : AllSendable (take n s.kept) = every_take (λ (b : SentBlock). Sendable b.text) n s.kept g.kept in
      let r : Every (Carriable t) (carried s t) = run_good t (take n s.kept) k in
      every_map (Carriable t) Repeatable (repeated t) (λ b h. h) (reverse (carried s t)) (every_reverse (Carriable t) (carried s t) r)

  -- "Our own sender already meets this" (02, request 2): the ages of a packet that is due fall, to 1 or more
  pub older_fall : settings_number s.settings ≡ 0 → Good s → due s t ≡ true → falling (offsets (content_of s t).older) ≡ true
  older_fall ok g is_due_lem =
      let n = s.settings.level in
      let k : TimesFall t (take n s.kept) = times_take t n s.kept (due_fall s t ok is_due_lem g.fall) in
      fall_onto t t (carried s t) [] (omega arith) (run_fall t t (take n s.kept) k) (omega arith) refl
