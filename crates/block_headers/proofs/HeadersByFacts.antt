-- The headers of a payload, by plain facts.
use Prim.Native.Nat.{ℕ, ◌≤◌, ◌<◌}
use mathlib.Core.Path.{◌≡◌, ◌∙◌}
use mathlib.Core.List.{List, []}
use mathlib.Core.Bool.{Bool, true, false, cond}
use lib.ListN.{length}
use lib.Seq.{slice}
use borrow.Author.Tests.{lt-ltb, le-ltb}
use Rattle.packet_spec.specs.Limits.{level}
use Rattle.packet_spec.specs.Redundancy.{heads, bad, headers}
use Rattle.block_headers.specs.Internal.Seen.{heads_within}

module _ (plain : Bool) (t140 : ℕ) (p : List ℕ) (from end : ℕ) where
  pub crossed : end < from → heads_within plain t140 p from end ≡ bad 17
  crossed h = rw (lt-ltb end from h)

  module _ (h : from ≤ end) where
    pub outside : length p < end → heads_within plain t140 p from end ≡ bad 17
    outside k = rw (le-ltb end from h, lt-ltb (length p) end k)

    module _ (k : end ≤ length p) where
      pub inside : heads_within plain t140 p from end ≡ cond plain (heads [] (slice from end p)) (headers t140 level [] (slice from end p))
      inside = rw (le-ltb end from h, le-ltb (length p) end k)

      pub none_inside : plain ≡ true → heads_within plain t140 p from end ≡ heads [] (slice from end p)
      none_inside e = inside ∙ rw e

      pub some_inside : plain ≡ false → heads_within plain t140 p from end ≡ headers t140 level [] (slice from end p)
      some_inside e = inside ∙ rw e
