-- The walk over a text, a byte at a time, at a place of a list.
use Prim.Native.Nat.{ℕ, ◌+◌, ◌<◌}
use mathlib.Core.Path.{◌≡◌, ◌∙◌, ap}
use mathlib.Core.List.{List}
use mathlib.Core.Option.{none, some}
use mathlib.Core.Bool.{false}
use lib.ListN.{length, get_or, drop}
use Rattle.text_spec.specs.Utf8.{Range, owed_after, begins, well_formed}
use Rattle.text_spec.proofs.Walks.{goes_on, goes_anywhere, on_at, stops_at}

module _ (owed : List Range) (at : ℕ) (s : List ℕ) (h : at < length s) where
  pub goes_further : {rest : List Range} → owed_after owed (get_or s at 0) ≡ some rest → goes_on owed (drop at s) ≡ goes_on rest (drop (at + 1) s)
  goes_further {rest} e =
      goes_anywhere (drop at s) owed 0 0 0 at ∙ ap well_formed (on_at owed 0 at s h e)
      ∙ goes_anywhere (drop (at + 1) s) rest (0 + begins owed) (at + 1) 0 0

  pub goes_no_further : owed_after owed (get_or s at 0) ≡ none → goes_on owed (drop at s) ≡ false
  goes_no_further e = goes_anywhere (drop at s) owed 0 0 0 at ∙ ap well_formed (stops_at owed 0 at s h e)
