-- A break leaves what a fresh receiver would: the same entries, and the same receiver.
use Prim.Native.Nat.{ℕ}
use mathlib.Core.Path.{◌≡◌, ap}
use mathlib.Core.Option.{Option}
use Rattle.delivery.specs.Course.{Course, break, distance, course_at}
use Rattle.delivery.specs.Internal.Core.{Packet, fresh, expects, adds_at, receiver_after_at, adds, receiver_after}

module _ (e : ℕ) (kept : Option ℕ) (p : Packet) (breaks : course_at e kept p.sequence ≡ break) where
  pub break_adds : adds (expects e kept) p ≡ adds fresh p
  break_adds = ap (λ (c : Course). adds_at c (distance p.sequence e) p) breaks

  pub break_leaves : receiver_after (expects e kept) p ≡ receiver_after fresh p
  break_leaves = ap (λ (c : Course). receiver_after_at c e kept p) breaks
