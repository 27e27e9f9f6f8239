-- A call is given the front of the lent buffer, as long as the longest packet: where a transcript stands is told by it alone.
use Prim.Native.Nat.{ℕ, ◌≤◌}
use mathlib.Core.Path.{◌≡◌, ◌∙◌, ap, sym}
use mathlib.Core.List.{List, ◌++◌}
use mathlib.Core.Bool.{true}
use native.Mathlib.Omega.{arith}
use borrow.Author.Tests.{leb-true}
use lib.Dec.{leb}
use lib.ListN.{length, take, drop, length-append}
use lib.Seq.{take-take, take_all, length-take-le}
use Rattle.std.proofs.lemmas.List.{take-append-le}
use Rattle.base.specs.Arrays.{part, over}
use Rattle.base.proofs.PartOf.{part_slice}
use Rattle.base.proofs.Tests.{and_left, and_right}
use Rattle.journal_spec.specs.Contents.{longest_packet}
use Rattle.reading.proofs.Sound.{fits}
use Rattle.receiver.specs.View.{receiver_of}
use Rattle.standing.specs.Standing.{Standing, stop_of}
use Rattle.standing.specs.Filling.{fill_of}
use Rattle.journal.specs.declared.Transcript.{Transcript}
use Rattle.journal.specs.Ready.{standing_of, transcript_ready, Fills, Filling, Stops, Stopping}
use Rattle.journal.proofs.Ready.{facts, with_buffer, ready_fills, ready_stops}

module _ (s : Transcript) (p : List ℕ) (ok : transcript_ready s ≡ true) (long : longest_packet ≤ length p) where
  pieces_same : take s.reader.at (take longest_packet p) ≡ take s.reader.at p
  pieces_same = take-take s.reader.at longest_packet p (fits s.reader (facts s ok).reader)

  text_same : part s.due.from s.due.to (take longest_packet p) ≡ part s.due.from s.due.to p
  text_same =
      let d = s.due in
      let h = (facts s ok).inside in
      let crossed : d.from ≤ d.to = leb-true d.from d.to (and_left (leb d.from d.to) _ h) in
      let short : d.to ≤ longest_packet = leb-true d.to longest_packet (and_right (leb d.from d.to) _ h) in
      let front : length (take longest_packet p) ≡ longest_packet = length-take-le longest_packet p long in
      part_slice d.from d.to (take longest_packet p) crossed (omega arith) ∙ ap (drop d.from) (take-take d.to longest_packet p short)
      ∙ sym (part_slice d.from d.to p crossed (omega arith))

  stands_same : standing_of s (take longest_packet p) ≡ standing_of s p
  stands_same = λ i. record {
    reading = record { opened = s.reader.opened; part = s.reader.part; size = s.reader.size; pieces = pieces_same i };
    receiver = receiver_of s.receiver;
    counts = s.counts;
    left = s.left;
    marks = s.due.marks;
    text = text_same i;
  }

-- the buffer afterwards: its front, and the rest
module _ (s' : Transcript) (q rest : List ℕ) (ok : transcript_ready s' ≡ true) (same : length q ≡ longest_packet) where
  stands_whole : standing_of s' (q ++ rest) ≡ standing_of s' q
  stands_whole =
      let long : longest_packet ≤ length (q ++ rest) = omega (arith, same, length-append q rest) in
      sym (stands_same s' (q ++ rest) ok long) ∙ ap (standing_of s') (take-append-le longest_packet q rest (omega (arith, same)) ∙ take_all longest_packet q (omega (arith, same)))

module _ (s : Transcript) (p : List ℕ) (ok : transcript_ready s ≡ true) (long : longest_packet ≤ length p) (front : List ℕ) (fe : front ≡ take longest_packet p)
    (s' : Transcript) (q : List ℕ) (same : length q ≡ longest_packet) where
  before : standing_of s front ≡ standing_of s p
  before = ap (standing_of s) fe ∙ stands_same s p ok long

  pub fill_front : (x y y' : List ℕ) (used count : ℕ) → Fills s front x y s' q y' used count → Filling s p x y s' (q ++ drop longest_packet p) y' used count
  fill_front x y y' used count t = ready_fills s p x y s' (q ++ drop longest_packet p) y' used count (with_buffer s (length p) long ok) (record {
    still = t.still;
    stands = stands_whole s' q (drop longest_packet p) t.still same ∙ t.stands ∙ ap (λ (c : Standing). (fill_of c x (length y)).standing) before;
    uses = t.uses ∙ ap (λ (c : Standing). (fill_of c x (length y)).used) before;
    counts = t.counts ∙ ap (λ (c : Standing). length (fill_of c x (length y)).given) before;
    bytes = t.bytes ∙ ap (λ (c : Standing). over (fill_of c x (length y)).given y) before;
  })

  pub stop_front : Stops s front s' q → Stopping s p s' (q ++ drop longest_packet p)
  stop_front t = ready_stops s p s' (q ++ drop longest_packet p) (with_buffer s (length p) long ok) (record {
    still = t.still;
    stands = stands_whole s' q (drop longest_packet p) t.still same ∙ t.stands ∙ ap stop_of before;
  })
