-- What was read is acted upon: where the transcript stands then, and that it is ready.
use Prim.Native.Nat.{ℕ, ◌-◌, ◌≤◌}
use mathlib.Core.Path.{◌≡◌, ◌∙◌, refl, ap, sym}
use mathlib.Core.List.{List}
use mathlib.Core.Bool.{true, false, true≢false}
use native.Mathlib.Omega.{arith}
use lib.ListN.{length, take}
use lib.Seq.{take-take, take_all}
use Rattle.base.specs.Arrays.{part, over}
use Rattle.base.proofs.PartOf.{part_mid}
use Rattle.parts.specs.declared.Part.{Part}
use Rattle.parts.specs.declared.Part.TheVariants.{Kind, Types, Red, Length, Low, Piece, Time, Opened, Packet, Ended, Broken}
use Rattle.parts.specs.Bytes.{going}
use Rattle.printing.specs.Fitting.{fitting}
use Rattle.journal_spec.specs.Contents.{longest_packet}
use Rattle.journal_spec.specs.Lines.{broken_line}
use Rattle.journal_spec.proofs.Short.{counts_short}
use Rattle.reading.specs.declared.Reader.{Reader}
use Rattle.reading.specs.Reading.{reading_of, outside, sound}
use Rattle.reading.specs.Internal.Bytes.{past_at, past_of}
use Rattle.reading.proofs.Sound.{small, packet_inside}
use Rattle.receiver.specs.declared.Receiver.{Receiver}
use Rattle.receiver.specs.View.{receiver_of}
use Rattle.receiver_spec.specs.Step.{step_of}
use Rattle.receiver_spec.proofs.GivenWithin.{given_lies}
use Rattle.counts.specs.declared.Counts.{Counts}
use Rattle.counts.specs.Counts.{line_of, OneMore}
use Rattle.due.specs.declared.Due.{Due}
use Rattle.due.specs.Due.{empty_due, line_due, due_of}
use Rattle.due.proofs.Arising.{none_text, line_text, line_within, answer_within, answer_text, answer_marks}
use Rattle.acting.specs.declared.Acted.{Acted}
use Rattle.acting.specs.Internal.Acting.{OpensReceiver, Steps, PutsLine, Acts}
use Rattle.standing.specs.Standing.{Standing, closed, next_record, packet_in, stepped, settled}
use Rattle.standing.proofs.Settled.{settled_at_lem, waits_at, at_limit, before_limit}
use Rattle.journal.specs.declared.Transcript.{Transcript}
use Rattle.journal.specs.Ready.{standing_of, transcript_ready}
use Rattle.journal.proofs.Ready.{facts, holds}

abbrev pub acted : Transcript → Reader → Receiver → Counts → Due → Transcript
acted s r v k d = record { reader = r; receiver = v; counts = k; left = s.left; due = d }

-- ready, and standing there
abbrev At : Transcript → List ℕ → Standing → Type 0
At s p c = (transcript_ready s ≡ true) × (standing_of s p ≡ c)

line_short : (k : Counts) → length (line_of k) ≤ longest_packet
unfolding line_of
line_short k = counts_short k.packets k.late k.lost k.refused

-- a line over the front of p is due
module _ (s : Transcript) (p line : List ℕ) (ok : transcript_ready s ≡ true) (long : longest_packet ≤ length p) (short : length line ≤ longest_packet) (q : Part)
    (w : sound (outside s.reader.opened q) ≡ true) where
  shut : (r : Reader) (v : Receiver) (k : Counts) (d : Due) (p' : List ℕ) → r ≡ outside s.reader.opened q → v ≡ s.receiver → k ≡ s.counts → PutsLine line p d p'
      → At (acted s r v k d) p' (closed (standing_of s p) q line)
  shut r v k d p' re ve ke l =
      let n = length (fitting line p) in
      let all : fitting line p ≡ line = take_all (length p) line (omega arith) in
      let g : p' ≡ over line p = l.lent ∙ ap (λ (y : List ℕ). over y p) all in
      let t : Transcript = acted s (outside s.reader.opened q) s.receiver s.counts (line_due n) in
      let same : acted s r v k d ≡ t = λ i. acted s (re i) (ve i) (ke i) (l.due i) in
      let few : n ≡ length line = ap length all in (
        ap transcript_ready same ∙ holds t record { inside = line_within n (omega arith); fit = (facts s ok).fit; reader = w },
        (λ i. standing_of (same i) (g i)) ∙ ap (λ (x : List ℕ). closed (standing_of s p) q x) (line_text line p n few),
      )

pub broken_off : (s : Transcript) (p : List ℕ) → transcript_ready s ≡ true → longest_packet ≤ length p → (r : Reader) (d : Due) (p' : List ℕ) → r ≡ outside s.reader.opened Broken
    → PutsLine broken_line p d p'
    → (transcript_ready (acted s r s.receiver s.counts d) ≡ true) × (standing_of (acted s r s.receiver s.counts d) p' ≡ closed (standing_of s p) Broken broken_line)
broken_off s p ok long r d p' re l = shut s p broken_line ok long (omega arith) Broken refl r s.receiver s.counts d p' re refl refl l

-- where reading goes on
module _ (s : Transcript) (p : List ℕ) (ok : transcript_ready s ≡ true) (g : going s.reader.part ≡ true) where
  pub at_the_limit : s.left ≡ 0 → closed (standing_of s p) Broken broken_line ≡ settled (standing_of s p)
  at_the_limit z =
      let c = standing_of s p in
      at_limit c z ∙ sym (settled_at_lem c s.reader.part refl ∙ waits_at s.reader.part c g)

  pub still_going : (s.left ≡ 0 → ⊥) → (transcript_ready s ≡ true) × (standing_of s p ≡ settled (standing_of s p))
  still_going z =
      let c = standing_of s p in
      (ok, before_limit c z ∙ sym (settled_at_lem c s.reader.part refl ∙ waits_at s.reader.part c g))

-- where it stopped
module _ (s : Transcript) (p : List ℕ) (ok : transcript_ready s ≡ true) (long : longest_packet ≤ length p) (m : s.reader.part ≡ Packet → OneMore s.counts s.left)
    (a : Acted) (p' : List ℕ) where
  abbrev by : Reader → Transcript
  by r = acted s r a.receiver a.counts a.due

  opened : (t140 red : ℕ) → s.reader.part ≡ Opened t140 red → OpensReceiver s.counts t140 red a → p' ≡ p → At (by (outside true Kind)) p' (settled (standing_of s p))
  opened t140 red e o pe =
      let r = outside true Kind in
      let t : Transcript = acted s r a.receiver s.counts empty_due in
      let same : by r ≡ t = λ i. acted s r a.receiver (o.counts i) (o.due i) in (
        ap transcript_ready same ∙ holds t record { inside = line_within 0 (omega arith); fit = (facts s ok).fit; reader = refl },
        (λ i. standing_of (same i) (pe i))
            ∙ (λ i. next_record (standing_of s p) true (o.receiver i) s.counts 0 (none_text p i))
            ∙ sym (settled_at_lem (standing_of s p) (Opened t140 red) e),
      )

  packet : s.reader.part ≡ Packet → Steps s.receiver s.counts (part 0 s.reader.size p) a → p' ≡ p → At (by (outside s.reader.opened Kind)) p' (settled (standing_of s p))
  packet e h pe =
      let size = s.reader.size in
      let few = small s.reader (facts s ok).reader in
      let zero_less : size - 0 ≡ size = omega arith in
      let x : part 0 size p ≡ take size p = part_mid 0 size p (omega arith) (omega arith) ∙ ap (λ (n : ℕ). take n p) zero_less in
      let st : Steps s.receiver s.counts (take size p) a = rw x at h in
      let v = step_of (receiver_of s.receiver) (take size p) in
      let r = outside s.reader.opened Kind in
      let w = st.counting s.left (m e) in
      let t : Transcript = acted s r a.receiver a.counts (due_of v.answer) in
      let same : by r ≡ t = λ i. acted s r a.receiver a.counts (st.due i) in
      let lies = given_lies (receiver_of s.receiver) (take size p) in
      let whole : packet_in (reading_of s.reader p) ≡ take size p = take-take size s.reader.at p (packet_inside s.reader (facts s ok).reader e) in (
        ap transcript_ready same ∙ holds t record { inside = answer_within p size few long v.answer lies; fit = w.1; reader = refl },
        (λ i. standing_of (same i) (pe i))
            ∙ (λ i. next_record (standing_of s p) s.reader.opened (st.receiver i) (w.0 i) (answer_marks v.answer i) (answer_text p size few long v.answer lies i))
            ∙ sym (settled_at_lem (standing_of s p) Packet e ∙ ap (stepped (standing_of s p)) whole),
      )

  by_part : (q : Part) → s.reader.part ≡ q → going q ≡ false → Acts q s.reader.size s.receiver s.counts p a p'
      → At (by (past_at q s.reader.opened)) p' (settled (standing_of s p))
  unfolding Acts
  by_part (Opened t140 red) e g h = opened t140 red e h.0 h.1
  by_part Packet e g h = packet e h.0 h.1
  by_part Ended e g h =
      let w = shut s p (line_of s.counts) ok long (line_short s.counts) Ended refl _ a.receiver a.counts a.due p' refl h.receiver h.counts h.closing in
      (w.0, w.1 ∙ sym (settled_at_lem (standing_of s p) Ended e))
  by_part Broken e g h =
      let w = shut s p broken_line ok long (omega arith) Broken refl _ a.receiver a.counts a.due p' refl h.receiver h.counts h.closing in
      (w.0, w.1 ∙ sym (settled_at_lem (standing_of s p) Broken e))
  by_part Kind e g h = absurd (true≢false g)
  by_part Types e g h = absurd (true≢false g)
  by_part (Red t140) e g h = absurd (true≢false g)
  by_part Length e g h = absurd (true≢false g)
  by_part (Low high) e g h = absurd (true≢false g)
  by_part (Piece n) e g h = absurd (true≢false g)
  by_part (Time n) e g h = absurd (true≢false g)

  pub acted_upon : going s.reader.part ≡ false → Acts s.reader.part s.reader.size s.receiver s.counts p a p' → (r : Reader) → r ≡ past_of s.reader
      → (transcript_ready (acted s r a.receiver a.counts a.due) ≡ true) × (standing_of (acted s r a.receiver a.counts a.due) p' ≡ settled (standing_of s p))
  acted_upon g h r re = rw re (by_part s.reader.part refl g h)
