-- Headers that stand one behind the other, by their places.
use Prim.Native.Nat.{ℕ, zero, suc, ◌+◌, ◌*◌, ◌/◌, ◌%◌, ◌<◌, ◌≤◌}
use mathlib.Core.Path.{◌≡◌, ◌∙◌, refl, ap, sym}
use mathlib.Core.List.{List, [], ◌∷◌, ◌++◌}
use native.Mathlib.Omega.{arith}
use lib.ListN.{length, get_or, take, drop}
use lib.Seq.{slice, drop-drop, get_or-drop}
use Rattle.packet_spec.specs.Redundancy.{Head, head_of, total}
use Rattle.packet_spec.specs.Internal.Heads.{heads_in}
use Rattle.base.proofs.Slices.{get_or_slice, drop_slice}

pub heads_length : (n : ℕ) (s : List ℕ) → length (heads_in n s) ≡ n
heads_length zero s = refl
heads_length (suc n) s = ap suc (heads_length n (drop 4 s))

pub head_is : (n : ℕ) (s : List ℕ) (k : ℕ) (d : Head) → k < n → get_or (heads_in n s) k d ≡ head_of (drop (4 * k) s)
head_is zero s k d h = absurd (omega arith)
head_is (suc n) s zero d h = refl
head_is (suc n) s (suc k) d h =
    let e : 4 + 4 * k ≡ 4 * suc k = omega arith in
    head_is n (drop 4 s) k d (omega arith) ∙ ap head_of (drop-drop (4 * k) 4 s ∙ ap (λ (j : ℕ). drop j s) e)

-- a header within a part of a packet
pub head_within : (f t : ℕ) (p : List ℕ) → f + 4 ≤ t → head_of (slice f t p) ≡ head_of (drop f p)
head_within f t p h =
    let x : get_or (slice f t p) 1 0 ≡ get_or (drop f p) 1 0 = get_or_slice f t p 1 0 (omega arith) ∙ sym (get_or-drop f p 1 0) in
    let y : get_or (slice f t p) 2 0 ≡ get_or (drop f p) 2 0 = get_or_slice f t p 2 0 (omega arith) ∙ sym (get_or-drop f p 2 0) in
    let z : get_or (slice f t p) 3 0 ≡ get_or (drop f p) 3 0 = get_or_slice f t p 3 0 (omega arith) ∙ sym (get_or-drop f p 3 0) in
    λ i. record { offset = x i * 64 + y i / 4; len = y i % 4 * 256 + z i }

pub heads_within_lem : (n f t : ℕ) (p : List ℕ) → f + 4 * n ≤ t → heads_in n (slice f t p) ≡ heads_in n (drop f p)
heads_within_lem zero f t p h = refl
heads_within_lem (suc n) f t p h =
    let a : head_of (slice f t p) ≡ head_of (drop f p) = head_within f t p (omega arith) in
    let b : heads_in n (drop 4 (slice f t p)) ≡ heads_in n (drop 4 (drop f p)) =
    ap (heads_in n) (drop_slice f t p 4) ∙ heads_within_lem n (f + 4) t p (omega arith) ∙ ap (heads_in n) (sym (drop-drop 4 f p)) in
    λ i. a i ∷ b i

-- the bytes of one more block
pub total_more : (hs : List Head) (k : ℕ) (d : Head) → k < length hs → total (take (suc k) hs) ≡ total (take k hs) + (get_or hs k d).len
total_more [] k d h = absurd (omega arith)
total_more (x ∷ xs) zero d h = omega arith
total_more (x ∷ xs) (suc k) d h = omega (arith, total_more xs k d (omega arith))

pub total_snoc : (hs : List Head) (h : Head) → total (hs ++ (h ∷ [])) ≡ total hs + h.len
total_snoc [] h = omega arith
total_snoc (x ∷ xs) h = omega (arith, total_snoc xs h)
