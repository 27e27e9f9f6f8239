-- Laws for callers: a header by its place is one of those that stand one behind the other.
use Prim.Native.Nat.{ℕ, ◌+◌, ◌*◌, ◌<◌, ◌≤◌}
use mathlib.Core.Path.{◌≡◌, ◌∙◌, ap, sym}
use mathlib.Core.List.{List}
use mathlib.Core.Bool.{Bool, cond}
use native.Mathlib.Omega.{arith}
use lib.ListN.{length, get_or, drop}
use lib.Seq.{drop-drop}
use borrow.Author.Tests.{le-ltb}
use Rattle.packet_spec.specs.Redundancy.{head_of}
use Rattle.packet_spec.specs.Internal.Heads.{heads_in}
use Rattle.block_headers.specs.Headers.{no_head, head_at}
use Rattle.packet_spec.proofs.HeadsIn.{head_is}

pub head_at_is : (p : List ℕ) (from n k : ℕ) → k < n → from + 4 * n ≤ length p → head_at p (from + 4 * k) ≡ get_or (heads_in n (drop from p)) k no_head
head_at_is p from n k h f =
    ap (λ (b : Bool). cond b no_head (head_of (drop (from + 4 * k) p))) (le-ltb (length p) (from + 4 * k + 4) (omega arith))
    ∙ ap head_of (sym (drop-drop (4 * k) from p))
    ∙ sym (head_is n (drop from p) k no_head h)
