-- Which check of the header decides, by plain facts.
use Prim.Native.Nat.{ℕ, ◌<◌, ◌≤◌}
use mathlib.Core.Path.{◌≡◌}
use mathlib.Core.List.{List}
use mathlib.Core.Bool.{true, false}
use lib.Dec.{ltb}
use lib.ListN.{length, drop}
use borrow.Author.Tests.{lt-ltb, le-ltb, eq-eqb, ne_eqb}
use Rattle.packet_spec.specs.Header.{Expected, version, header_end, padding_bad, types_bad, other_type, other_source}
use Rattle.packet_spec.specs.Redundancy.{Head, total, ages_fall, are_text}
use Rattle.packet_spec.specs.Limits.{shortest, longest}
use Rattle.base.specs.Checks.{checked}
use Rattle.packet_spec.specs.Reading.{header_checks, block_checks}
use Rattle.packet_spec.specs.Internal.Layout.{layout_checks}

module _ {A : Type 0} (refuse : ℕ → A) (p : List ℕ) (x : A) where
  -- checks 10 to 14, from the n-th on
  abbrev pub layout_from : ℕ → A
  layout_from n = checked refuse (drop n (layout_checks p)) x

  pub gives_10 : length p < shortest → layout_from 0 ≡ refuse 10
  gives_10 h = rw (lt-ltb (length p) shortest h)

  module _ (long : shortest ≤ length p) where
    pub gives_11 : longest < length p → layout_from 0 ≡ refuse 11
    gives_11 h = rw (le-ltb (length p) shortest long, lt-ltb longest (length p) h)

    module _ (short : length p ≤ longest) where
      pub gives_12 : (version p ≡ 2 → ⊥) → layout_from 0 ≡ refuse 12
      gives_12 f = rw (le-ltb (length p) shortest long, le-ltb longest (length p) short, ne_eqb (version p) 2 f)

      pub past_12 : version p ≡ 2 → layout_from 0 ≡ layout_from 3
      past_12 e = rw (le-ltb (length p) shortest long, le-ltb longest (length p) short, eq-eqb (version p) 2 e)

  pub gives_13 : ltb (length p) (header_end p) ≡ true → layout_from 3 ≡ refuse 13
  gives_13 e = rw e

  module _ (header : ltb (length p) (header_end p) ≡ false) where
    pub gives_14 : padding_bad p ≡ true → layout_from 3 ≡ refuse 14
    gives_14 e = rw (header, e)

    pub past_14 : padding_bad p ≡ false → layout_from 3 ≡ x
    past_14 e = rw (header, e)

module _ {A : Type 0} (refuse : ℕ → A) (expected : Expected) (t140 red : ℕ) (p : List ℕ) (x : A) where
  -- checks from the n-th on
  abbrev pub from : ℕ → A
  from n = checked refuse (drop n (header_checks expected t140 red p)) x

  pub gives_3 : types_bad t140 red ≡ true → from 0 ≡ refuse 3
  gives_3 e = rw e

  pub past_3 : types_bad t140 red ≡ false → from 0 ≡ layout_from refuse p (from 6) 0
  past_3 e = rw e

  pub gives_15 : other_type t140 red p ≡ true → from 6 ≡ refuse 15
  gives_15 e = rw e

  module _ (type : other_type t140 red p ≡ false) where
    pub gives_16 : other_source expected p ≡ true → from 6 ≡ refuse 16
    gives_16 e = rw (type, e)

    pub past_16 : other_source expected p ≡ false → from 6 ≡ x
    past_16 e = rw (type, e)

-- the blocks' checks
module _ {A : Type 0} (refuse : ℕ → A) (hs : List Head) (s : List ℕ) (x : A) where
  pub gives_20 : length s < total hs → checked refuse (block_checks hs s) x ≡ refuse 20
  gives_20 h = rw (lt-ltb (length s) (total hs) h)

  module _ (fit : total hs ≤ length s) where
    pub gives_22 : ages_fall hs ≡ false → checked refuse (block_checks hs s) x ≡ refuse 22
    gives_22 e = rw (le-ltb (length s) (total hs) fit, e)

    module _ (ages : ages_fall hs ≡ true) where
      pub gives_21 : are_text hs s ≡ false → checked refuse (block_checks hs s) x ≡ refuse 21
      gives_21 e = rw (le-ltb (length s) (total hs) fit, ages, e)

      pub past_21 : are_text hs s ≡ true → checked refuse (block_checks hs s) x ≡ x
      past_21 e = rw (le-ltb (length s) (total hs) fit, ages, e)
