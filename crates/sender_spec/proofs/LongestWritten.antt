-- Every packet of a good sender is at most as long as the longest of its level, and what is due fits a space of that length.
use Prim.Native.Nat.{ℕ, ◌≤◌}
use mathlib.Core.Path.{◌≡◌, refl}
use mathlib.Core.List.{List}
use mathlib.Core.Bool.{true}
use native.Mathlib.Omega.{arith}
use lib.Dec.{eqb}
use lib.ListN.{length}
use Rattle.packet_spec.specs.Limits.{level}
use Rattle.sender_spec.specs.Limits.{longest_written}
use Rattle.sender_spec.specs.Settings.{settings_number}
use Rattle.sender_spec.specs.State.{Sender}
use Rattle.sender_spec.specs.Calls.{clock_of, clock_sent}
use Rattle.sender_spec.specs.Packets.{due, content_of, packet_bytes}
use Rattle.base.proofs.Tests.{by_test}
use Rattle.sender_spec.proofs.Calls.{clock_sent_lem}
use Rattle.sender_spec.proofs.SettingsPass.{settings_good}
use Rattle.sender_spec.proofs.StaysSendable.{Good, taken_good}
use Rattle.sender_spec.proofs.Sizes.{plain_size, redundant_size}
use Rattle.sender_spec.proofs.Carried.{older_few, older_good}
use Rattle.sender_spec.proofs.ReadsBack.{all_short}

module _ (s : Sender) (t : ℕ) (g : Good s) where
  abbrev R : ℕ
  R = s.settings.level

  pub longest_written_lem : length (packet_bytes s t) ≤ longest_written R
  longest_written_lem =
      let c = content_of s t in
      by_test (λ (p : List ℕ). length p ≤ longest_written R) (eqb R 0)
      (λ e. plain_size R s.settings.t140 c (taken_good s t g).1)
      (λ e. redundant_size R s.settings.t140 s.settings.red c (older_few s t) (all_short c.older (older_good s t g)) (taken_good s t g).1)

  -- so the space of the highest level does for every sender
  pub space_enough : (p : List ℕ) → settings_number s.settings ≡ 0 → s.clock ≤ t → due s t ≡ true → longest_written level ≤ length p
      → clock_of s t p ≡ clock_sent s t p
  space_enough p ok later is_due_lem h =
      let few = (settings_good s.settings ok).few in
      clock_sent_lem s t p (settings_number s.settings) refl ok later is_due_lem (omega (arith, longest_written_lem))
