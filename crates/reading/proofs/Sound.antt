-- Laws of sound readers.
use Prim.Native.Nat.{◌≤◌}
use mathlib.Core.Path.{◌≡◌, refl}
use mathlib.Core.Bool.{true}
use borrow.Author.Tests.{leb-true}
use lib.Dec.{leb}
use Rattle.base.proofs.Tests.{and_left, and_right}
use Rattle.journal_spec.specs.Contents.{longest_packet}
use Rattle.parts.specs.declared.Part.{Part}
use Rattle.parts.specs.declared.Part.TheVariants.{Packet}
use Rattle.parts.specs.Sound.{sound_at}
use Rattle.parts.proofs.Sound.{place}
use Rattle.reading.specs.declared.Reader.{Reader}
use Rattle.reading.specs.Reading.{sound}

module _ (r : Reader) (h : sound r ≡ true) where
  pub small : r.size ≤ longest_packet
  small = leb-true r.size longest_packet (and_left (leb r.size longest_packet) _ h)

  pub at_part : (q : Part) → r.part ≡ q → sound_at q r.size r.at ≡ true
  at_part q e = rw e at (and_right (leb r.size longest_packet) _ h)

  pub fits : r.at ≤ longest_packet
  fits = place r.part r.size r.at (at_part r.part refl)

  -- what a sound reader tells where it stopped
  pub packet_inside : r.part ≡ Packet → r.size ≤ r.at
  packet_inside e = leb-true r.size r.at (and_left (leb r.size r.at) _ (at_part Packet e))
