-- The digits of a number, and the line of counts.
use Prim.Native.Nat.{ℕ, zero, suc, ◌+◌, ◌-◌, ◌/◌, ◌%◌, ◌^◌, ◌<◌, ◌≤◌}
use mathlib.Core.Path.{◌≡◌, ◌∙◌, refl, ap, sym}
use mathlib.Core.List.{List, [], ◌∷◌, ◌++◌, append_assoc}
use mathlib.Core.Bool.{Bool, true, false, cond}
use native.Mathlib.Omega.{arith}
use native.Mathlib.Nat.{pow-succ', pow-zero, one-le-pow, pow-le-pow_right}
use borrow.Author.Tests.{ltb-true, ltb-false, lt-ltb, leb-true, leb-false}
use lib.Dec.{ltb, leb}
use Rattle.io.specs.Digits.{last_digits, hex_digit_ascii, IsDigitCount}
use Rattle.journal_spec.specs.Lines.{decimal_up_to, decimal, counts_line}

glyph_of : (d : ℕ) → d < 10 → hex_digit_ascii d ≡ 48 + d
glyph_of d h = rw (lt-ltb d 10 h)

small : (n : ℕ) → n < 10 → n % 10 ≡ n
small n h = omega arith

rem : (n : ℕ) → n % 10 < 10
rem n = omega arith

too_few : (n : ℕ) → 10 ≤ n → n < 10 ^ 1 → ⊥
too_few n h k = omega (arith, pow-succ' 10 0, pow-zero 10)

too_many : (n j : ℕ) → n < 10 → 10 ^ (suc (suc j) - 1) ≤ n → ⊥
too_many n j h k =
    let z : suc (suc j) - 1 ≡ suc j = omega arith in
    let k' : 10 ^ suc j ≤ n = rw z at k in
    omega (arith, pow-succ' 10 j, one-le-pow j 10 (omega arith))

fewer : (n j : ℕ) → IsDigitCount 10 1 n (suc (suc j)) → IsDigitCount 10 1 (n / 10) (suc j)
fewer n j f =
    let p1 = pow-succ' 10 (suc j) in
    let a : n < 10 ^ suc (suc j) = f.1 in
    let z : suc (suc j) - 1 ≡ suc j = omega arith in
    let z2 : suc j - 1 ≡ j = omega arith in
    let b : 10 ^ suc j ≤ n = rw z at (f.2 (omega arith)) in
    let p2 = pow-succ' 10 j in
    (omega arith, omega arith, λ _. rw z2 (omega arith))

by_case : (k j n : ℕ) (b : Bool) → ltb n 10 ≡ b → IsDigitCount 10 1 n (suc j) → (1 ≤ j → IsDigitCount 10 1 (n / 10) j → last_digits 10 j (n / 10) ≡ decimal_up_to k (n / 10))
    → last_digits 10 j (n / 10) ++ (hex_digit_ascii (n % 10) ∷ []) ≡ cond b ((48 + n) ∷ []) (decimal_up_to k (n / 10) ++ ((48 + n % 10) ∷ []))
by_case k zero n true e f ih = rw (glyph_of (n % 10) (rem n), small n (ltb-true n 10 e))
by_case k (suc j) n true e f ih = absurd (too_many n j (ltb-true n 10 e) (f.2 (omega arith)))
by_case k zero n false e f ih = absurd (too_few n (ltb-false n 10 e) f.1)
by_case k (suc j) n false e f ih = rw (glyph_of (n % 10) (rem n), ih (omega arith) (fewer n j f))

no_digit : {j : ℕ} → j ≤ 0 → 1 ≤ j → ⊥
no_digit a b = omega arith

digits_is : (k j n : ℕ) → j ≤ k → IsDigitCount 10 1 n j → last_digits 10 j n ≡ decimal_up_to k n
unfolding decimal_up_to
digits_is zero j n h f = absurd (no_digit h f.0)
digits_is (suc k) zero n h f = absurd (no_digit {j = 0} (omega arith) f.0)
digits_is (suc k) (suc j) n h f = by_case k j n (ltb n 10) refl f (λ i g. digits_is k j (n / 10) (omega arith) g)

pub decimal_is : (j n : ℕ) → j ≤ 20 → IsDigitCount 10 1 n j → last_digits 10 j n ≡ decimal n
unfolding decimal
decimal_is j n h f = digits_is 20 j n h f

-- a number of 64 bits has at most 20 digits
pub twenty : (k n : ℕ) → IsDigitCount 10 1 n k → n < 18446744073709551616 → k ≤ 20
twenty k n f h = go (leb k 20) refl
  where
    never : (n x : ℕ) → n < 18446744073709551616 → x ≤ n → 100000000000000000000 ≤ x → ⊥
    never n x a b c = omega arith

    go : (b : Bool) → leb k 20 ≡ b → k ≤ 20
    go true e = leb-true k 20 e
    go false e =
        let m : 20 < k = leb-false k 20 e in
        let a : 10 ^ (k - 1) ≤ n = f.2 (omega arith) in
        let c : 20 ≤ k - 1 = omega arith in
        let b : 10 ^ 20 ≤ 10 ^ (k - 1) = pow-le-pow_right {n = 10} (omega arith) c in
        let d : 100000000000000000000 ≤ 10 ^ (k - 1) = b in
        absurd (never n (10 ^ (k - 1)) h a d)

-- the line of counts, run by run
pub line_runs : (a b c d : ℕ) → ((10 ∷ 112 ∷ 97 ∷ 99 ∷ 107 ∷ 101 ∷ 116 ∷ 115 ∷ 32 ∷ []) ++ decimal a) ++ ((32 ∷ 108 ∷ 97 ∷ 116 ∷ 101 ∷ 32 ∷ []) ++ decimal b)
    ++ ((32 ∷ 108 ∷ 111 ∷ 115 ∷ 116 ∷ 32 ∷ []) ++ decimal c) ++ ((32 ∷ 114 ∷ 101 ∷ 102 ∷ 117 ∷ 115 ∷ 101 ∷ 100 ∷ 32 ∷ []) ++ decimal d) ++ (10 ∷ []) ≡ counts_line a b c d
unfolding counts_line
line_runs a b c d = refl

-- the line of counts, in two halves
regrouped : (x y z e : List ℕ) → x ++ (y ++ z ++ e) ≡ x ++ y ++ z ++ e
regrouped x y z e = sym (append_assoc x (y ++ z) e) ∙ ap (λ (l : List ℕ). l ++ e) (sym (append_assoc x y z))

pub line_is : (a b c d : ℕ) → ((10 ∷ 112 ∷ 97 ∷ 99 ∷ 107 ∷ 101 ∷ 116 ∷ 115 ∷ 32 ∷ []) ++ decimal a ++ ((32 ∷ 108 ∷ 97 ∷ 116 ∷ 101 ∷ 32 ∷ []) ++ decimal b))
    ++ ((32 ∷ 108 ∷ 111 ∷ 115 ∷ 116 ∷ 32 ∷ []) ++ decimal c ++ ((32 ∷ 114 ∷ 101 ∷ 102 ∷ 117 ∷ 115 ∷ 101 ∷ 100 ∷ 32 ∷ []) ++ decimal d) ++ (10 ∷ [])) ≡ counts_line a b c d
unfolding counts_line
line_is a b c d =
    regrouped ((10 ∷ 112 ∷ 97 ∷ 99 ∷ 107 ∷ 101 ∷ 116 ∷ 115 ∷ 32 ∷ []) ++ decimal a ++ ((32 ∷ 108 ∷ 97 ∷ 116 ∷ 101 ∷ 32 ∷ []) ++ decimal b))
    ((32 ∷ 108 ∷ 111 ∷ 115 ∷ 116 ∷ 32 ∷ []) ++ decimal c) ((32 ∷ 114 ∷ 101 ∷ 102 ∷ 117 ∷ 115 ∷ 101 ∷ 100 ∷ 32 ∷ []) ++ decimal d) (10 ∷ [])
