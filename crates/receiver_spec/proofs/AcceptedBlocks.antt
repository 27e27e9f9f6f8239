-- The blocks of a packet that the step accepts.
use Prim.Native.Nat.{ℕ, suc, ◌+◌, ◌-◌, ◌≤◌}
use mathlib.Core.Path.{◌≡◌, ◌∙◌, ap}
use mathlib.Core.List.{List, [], ◌∷◌, ◌++◌}
use mathlib.Core.Bool.{Bool, true, false, cond}
use native.Mathlib.Omega.{arith}
use lib.ListN.{length, drop, length-append}
use lib.Seq.{drop-append-le}
use Rattle.packet_spec.specs.Header.{Any, Only}
use Rattle.receiver_spec.specs.State.{Receiver, read_by}
use Rattle.packet_spec.specs.Limits.{level}
use Rattle.packet_spec.specs.Reading.{Content, holds, reading}
use Rattle.delivery.specs.Record.{last_of}
use Rattle.packet_spec.proofs.BlocksLie.{of_one_source}

-- the last blocks and the primary
pub last_snoc : {A : Type 0} (w : ℕ) (xs : List A) (y : A) → w ≤ length xs → last_of (suc w) (xs ++ (y ∷ [])) ≡ last_of w xs ++ (y ∷ [])
last_snoc w xs y h =
    let n : length (xs ++ (y ∷ [])) ≡ length xs + 1 = length-append xs (y ∷ []) in
    let e : length (xs ++ (y ∷ [])) - suc w ≡ length xs - w = omega arith in
    ap (λ (k : ℕ). drop k (xs ++ (y ∷ []))) e ∙ drop-append-le (length xs - w) xs (y ∷ []) (omega arith)

-- a packet that the step accepts is accepted by the reader with any source, with the same content
pub read_by_any : (r : Receiver) (p : List ℕ) (c : Content) → read_by r p ≡ holds c
    → reading level Any r.t140 r.red p ≡ holds c
read_by_any r p c = go r.has_source
  where
    go : (h : Bool) → reading level (cond h (Only r.source) Any) r.t140 r.red p ≡ holds c → reading level Any r.t140 r.red p ≡ holds c
    go true e = (of_one_source level r.source r.t140 r.red p c e).0
    go false e = e
