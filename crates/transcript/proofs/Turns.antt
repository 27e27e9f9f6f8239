-- A turn of the program's loop.
use Prim.Native.Nat.{ℕ, ◌+◌, ◌<◌, ◌≤◌}
use mathlib.Core.Path.{◌≡◌, ◌∙◌, ap}
use mathlib.Core.List.{List}
use native.Mathlib.Omega.{arith}
use lib.ListN.{length, drop, length-drop}
use lib.Seq.{drop-drop}
use Rattle.base.proofs.Slices.{mid_rest}
use Rattle.journal.specs.declared.Transcript.{Transcript}
use Rattle.journal.specs.Ready.{Filling}
use Rattle.journal.proofs.FillLeaves.{from}
use Rattle.journal.proofs.HowFar.{FilledTo, to_give, filled_to}

module _ (s : Transcript) (p input : List ℕ) (used : ℕ) (y : List ℕ) (s' : Transcript) (p' y' : List ℕ) (more count : ℕ)
    (t : Filling s p (from used input) y s' p' y' more count) where
  pub filled : FilledTo s p (from used input) y s' p' more count
  filled = filled_to s p (from used input) y s' p' y' more count t

  pub turn_uses : used ≤ length input → used + more ≤ length input
  turn_uses h = omega (arith, filled.uses, ap length (mid_rest used input), length-drop used input)

  pub turn_less : 0 < count → to_give s' p' (drop (used + more) input) < to_give s p (drop used input)
  turn_less some =
      let e : drop more (from used input) ≡ drop (used + more) input = ap (drop more) (mid_rest used input) ∙ drop-drop more used input in
      omega (arith, filled.less some, ap (to_give s' p') e, ap (to_give s p) (mid_rest used input))
