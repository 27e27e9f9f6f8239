-- Behind as many older blocks' headers as are allowed, whatever their number is: no byte left is 17; a first bit of 1 is 18,
-- whatever else stands there; and the primary's header is taken, or 19.
use Prim.Native.Nat.{ℕ, ◌<◌, ◌≤◌}
use mathlib.Core.Path.{◌≡◌, ◌∙◌}
use mathlib.Core.List.{List, [], ◌∷◌, ◌++◌}
use native.Mathlib.Omega.{arith}
use lib.ListN.{length}
use Rattle.packet_spec.specs.Redundancy.{heads, bad, Block, headers}
use Rattle.packet_spec.proofs.HeadersByFacts.{none_left, too_many, last_other, last}
use Rattle.packet_spec.proofs.ReadBack.{LengthsFit, heads_for, older_headers, older_read}

module _ (t : ℕ) (small : t < 128) where
  all_read : (bs : List Block) (s : List ℕ) → LengthsFit bs → headers t (length bs) [] (older_headers t bs ++ s) ≡ headers t 0 (heads_for bs) s
  all_read bs s f = older_read t 0 (length bs) [] bs s small (omega arith) f

  module _ (bs : List Block) (f : LengthsFit bs) where
    pub none_behind : headers t (length bs) [] (older_headers t bs ++ []) ≡ bad 17
    none_behind = all_read bs [] f ∙ none_left t 0 (heads_for bs)

    module _ (b : ℕ) (s : List ℕ) where
      pub one_too_many : 128 ≤ b → headers t (length bs) [] (older_headers t bs ++ (b ∷ s)) ≡ bad 18
      one_too_many h = all_read bs (b ∷ s) f ∙ too_many t (heads_for bs) b s h

      pub other_type_lem : b < 128 → (b ≡ t → ⊥) → headers t (length bs) [] (older_headers t bs ++ (b ∷ s)) ≡ bad 19
      other_type_lem h n = all_read bs (b ∷ s) f ∙ last_other t (heads_for bs) b s 0 h n

      pub primary_header : b ≡ t → headers t (length bs) [] (older_headers t bs ++ (b ∷ s)) ≡ heads (heads_for bs) s
      primary_header e = all_read bs (b ∷ s) f ∙ last t (heads_for bs) b s 0 (omega arith) e
