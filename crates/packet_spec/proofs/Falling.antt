-- Numbers that fall, place by place: each is above the next, and the last above 0.
use Prim.Native.Nat.{ℕ, zero, suc, ◌<◌}
use mathlib.Core.Path.{◌≡◌, ◌∙◌, refl, ap}
use mathlib.Core.List.{List, [], ◌∷◌, ◌++◌}
use mathlib.Core.Bool.{Bool, true, false, ◌&&◌}
use native.Mathlib.Omega.{arith}
use lib.Dec.{ltb}
use lib.ListN.{length, get_or}
use borrow.Author.Tests.{lt-ltb, ltb-true}
use Rattle.packet_spec.specs.Redundancy.{falling}
use Rattle.base.proofs.Tests.{and_left, and_right, both}

-- behind the last stands 0
pub above_next : (ns : List ℕ) → falling ns ≡ true → (k : ℕ) → k < length ns → get_or ns (suc k) 0 < get_or ns k 0
above_next [] e k h = absurd (omega arith)
above_next (n ∷ ns) e zero h = ltb-true (get_or ns 0 0) n (and_left (ltb (get_or ns 0 0) n) (falling ns) e)
above_next (n ∷ ns) e (suc k) h = above_next ns (and_right (ltb (get_or ns 0 0) n) (falling ns) e) k (omega arith)

pub all_above : (ns : List ℕ) → ((k : ℕ) → k < length ns → get_or ns (suc k) 0 < get_or ns k 0) → falling ns ≡ true
all_above [] f = refl
all_above (n ∷ ns) f = both (lt-ltb (get_or ns 0 0) n (f 0 (omega arith))) (all_above ns (λ k h. f (suc k) (omega arith)))

-- whether numbers fall from each to the next, and the last to one more
abbrev pub fall_to : List ℕ → ℕ → Bool
fall_to [] x = true
fall_to (n ∷ ns) x = ltb (get_or (ns ++ (x ∷ [])) 0 0) n && fall_to ns x

pub and_true : (b : Bool) → (b && true) ≡ b
and_true true = refl
and_true false = refl

and_assoc : (a b c : Bool) → (a && (b && c)) ≡ ((a && b) && c)
and_assoc true b c = refl
and_assoc false b c = refl

pub fall_more : (ns : List ℕ) (y x : ℕ) → fall_to (ns ++ (y ∷ [])) x ≡ (fall_to ns y && ltb x y)
fall_more [] y x = and_true (ltb x y)
fall_more (n ∷ []) y x = ap (λ (b : Bool). ltb y n && b) (fall_more [] y x) ∙ and_assoc (ltb y n) true (ltb x y)
fall_more (n ∷ m ∷ ns) y x = ap (λ (b : Bool). ltb m n && b) (fall_more (m ∷ ns) y x) ∙ and_assoc (ltb m n) (fall_to (m ∷ ns) y) (ltb x y)

pub fall_to_none : (ns : List ℕ) → falling ns ≡ fall_to ns 0
fall_to_none [] = refl
fall_to_none (n ∷ []) = refl
fall_to_none (n ∷ m ∷ ns) = ap (λ (b : Bool). ltb m n && b) (fall_to_none (m ∷ ns))
