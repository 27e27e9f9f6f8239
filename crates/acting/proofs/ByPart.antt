-- What is done, by the part that reading is at.
use Prim.Native.Nat.{ℕ}
use mathlib.Core.Path.{◌≡◌, refl, sym, subst}
use mathlib.Core.List.{List}
use mathlib.Core.Bool.{true, true≢false}
use Rattle.base.specs.Arrays.{part}
use Rattle.journal_spec.specs.Lines.{broken_line}
use Rattle.parts.specs.declared.Part.{Part}
use Rattle.parts.specs.declared.Part.TheVariants.{Kind, Types, Red, Length, Low, Piece, Time, Opened, Packet, Ended, Broken}
use Rattle.parts.specs.Bytes.{going}
use Rattle.receiver.specs.declared.Receiver.{Receiver}
use Rattle.counts.specs.declared.Counts.{Counts}
use Rattle.counts.specs.Counts.{line_of}
use Rattle.due.specs.declared.Due.{Due}
use Rattle.acting.specs.declared.Acted.{Acted}
use Rattle.acting.specs.Internal.Acting.{OpensReceiver, Steps, PutsLine, Goes, Acts}

module _ (q : Part) (size : ℕ) (r : Receiver) (k : Counts) (p : List ℕ) where
  at_part : (q' : Part) (a : Acted) (p' : List ℕ) → q ≡ q' → Acts q' size r k p a p' → Acts q size r k p a p'
  at_part q' a p' e h = subst (λ (x : Part). Acts x size r k p a p') (sym e) h

  pub packet : (x : List ℕ) (a : Acted) → q ≡ Packet → x ≡ part 0 size p → Steps r k x a → Acts q size r k p a p
  unfolding Acts
  packet x a e f h = at_part Packet a p e (subst (λ (y : List ℕ). Steps r k y a) f h, refl)

  pub opened : (t140 red : ℕ) (a : Acted) → q ≡ Opened t140 red → OpensReceiver k t140 red a → Acts q size r k p a p
  unfolding Acts
  opened t140 red a e h = at_part (Opened t140 red) a p e (h, refl)

  pub ended : (d : Due) (p' : List ℕ) → q ≡ Ended → PutsLine (line_of k) p d p' → Acts q size r k p (record { receiver = r; counts = k; due = d }) p'
  unfolding Acts
  ended d p' e h = at_part Ended (record { receiver = r; counts = k; due = d }) p' e (record { receiver = refl; counts = refl; closing = h })

  pub broken : (d : Due) (p' : List ℕ) → q ≡ Broken → PutsLine broken_line p d p' → Acts q size r k p (record { receiver = r; counts = k; due = d }) p'
  unfolding Acts
  broken d p' e h = at_part Broken (record { receiver = r; counts = k; due = d }) p' e (record { receiver = refl; counts = refl; closing = h })

pub goes_on : (q : Part) (size : ℕ) (r : Receiver) (k : Counts) (p : List ℕ) (a : Acted) → going q ≡ true → Goes r k p a p → Acts q size r k p a p
unfolding Acts
goes_on Kind size r k p a g h = h
goes_on Types size r k p a g h = h
goes_on (Red t140) size r k p a g h = h
goes_on Length size r k p a g h = h
goes_on (Low high) size r k p a g h = h
goes_on (Piece n) size r k p a g h = h
goes_on (Time n) size r k p a g h = h
goes_on (Opened t140 red) size r k p a g h = absurd (true≢false (sym g))
goes_on Packet size r k p a g h = absurd (true≢false (sym g))
goes_on Ended size r k p a g h = absurd (true≢false (sym g))
goes_on Broken size r k p a g h = absurd (true≢false (sym g))
