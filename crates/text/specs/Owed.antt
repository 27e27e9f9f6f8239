-- What the walk over bytes remembers of a letter, in the terms of the table.
use Rattle.std.specs.Prelude.{ℕ, zero, suc, List, [], ◌∷◌, replicate, Option, Some, None}
use Rattle.std.proofs.Math.Option as Math
use Rattle.text.specs.declared.Owed.{Owed}
use Rattle.text_spec.specs.Utf8.{Range, ◌to◌, tail}

abbrev pub ranges : ℕ → Range → List Range
ranges zero r = []
ranges (suc n) r = r ∷ replicate n tail

abbrev pub owes : Owed → List Range
owes o = ranges o.tails (o.low to o.high)

abbrev pub walked : Option Owed → Math.Option (List Range)
walked (Some o) = Math.some (owes o)
walked None = Math.none
