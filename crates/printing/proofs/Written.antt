-- What fits is put into the front of a lent space, one run behind the other.
use Prim.Native.Nat.{ℕ, ◌+◌, ◌-◌, ◌*◌, ◌<◌, ◌≤◌, min}
use mathlib.Core.Path.{◌≡◌, ◌∙◌, ap, sym}
use mathlib.Core.List.{List, ◌++◌, append-nil}
use mathlib.Core.Bool.{Bool, cond}
use native.Mathlib.Omega.{arith}
use borrow.Author.Tests.{eq-eqb, ne_eqb}
use lib.ListN.{length, take, drop, length-append, length-take, length-drop}
use lib.Seq.{length-take-le}
use borrow.Rule.Slice.PartMut.{put_mid, mid_of}
use Rattle.base.specs.Arrays.{over}
use Rattle.base.proofs.Fronts.{take_min, take_more}
use Rattle.base.proofs.Lent.{copied, length_over, wrote}
use Rattle.receiver_spec.specs.Marks.{marks}
use Rattle.marks.proofs.MarkStores.{marks_length}
use Rattle.printing.specs.Fitting.{fitting, marks_fitting, text_fitting, due_fitting}

-- so much of w stands over the front of p
pub record Put (w p t : List ℕ) (at : ℕ) : Type 0 where
  pub stands : t ≡ over (fitting w p) p
  pub long : at ≡ length (fitting w p)

-- x was copied, as far as it fits
module _ (x p : List ℕ) (n : ℕ) (e : n ≡ min (length x) (length p)) where
  pub copies : take n x ≡ fitting x p
  copies = ap (λ (k : ℕ). take k x) e ∙ take_min x (length p)

  pub copied_fits : length (take n x) ≤ length p
  copied_fits = omega (arith, length-take n x)

  pub put_is : (r : ℕ) (t : List ℕ) → r ≡ length (take n x) → t ≡ take (length (take n x)) (take n x) ++ drop (length (take n x)) p
      → (r ≡ length (fitting x p)) × (t ≡ over (fitting x p) p) × (r ≤ length p)
  put_is r t f g = (f ∙ ap length copies, copied (take n x) p t g ∙ ap (λ (l : List ℕ). over l p) copies, omega (arith, f, copied_fits))

pub fits : (w p : List ℕ) → length (fitting w p) ≤ length p
fits w p = omega (arith, length-take (length p) w)

pub all_put : {w p t : List ℕ} {at : ℕ} → Put w p t at → (at ≡ length (fitting w p)) × (t ≡ over (fitting w p) p) × (at ≤ length p)
all_put {w} {p} a = (a.long, a.stands, let e = a.long in omega (arith, fits w p))

-- and one run more behind it
module _ {w p t : List ℕ} {at : ℕ} (a : Put w p t at) where
  same : length t ≡ length p
  same = ap length a.stands ∙ length_over (fitting w p) p (fits w p)

  pub within : at ≤ length t
  within = let e = a.long in omega (arith, same, fits w p)

  lent : length (mid_of at (length t - at) t) ≡ length t - at
  lent = length-take-le (length t - at) (drop at t) (omega (arith, length-drop at t))

  left : length p - length w ≡ length t - at
  left = let e = a.long in omega (arith, same, length-take (length p) w)

  pub more : (x part : List ℕ) (n : ℕ) → n ≡ length (fitting x (mid_of at (length t - at) t))
      → part ≡ over (fitting x (mid_of at (length t - at) t)) (mid_of at (length t - at) t) → Put (w ++ x) p (put_mid at (length t - at) t part) (at + n)
  more x part n e f =
      let y = fitting x (mid_of at (length t - at) t) in
      let all : fitting (w ++ x) p ≡ fitting w p ++ y =
      take_more (length p) w x ∙ ap (λ (k : ℕ). fitting w p ++ take k x) (left ∙ sym lent) in
      let z : length y ≤ length t - at = omega (arith, length-take (length (mid_of at (length t - at) t)) x, lent) in
      record {
        stands = wrote (fitting w p) y p t part at (length t - at) a.long a.stands z f ∙ ap (λ (l : List ℕ). over l p) (sym all);
        long = let l = a.long in omega (arith, length-append (fitting w p) y, ap length all);
      }

-- marks, and text behind them
module _ (k : ℕ) (x p t : List ℕ) (m : ℕ) (me : m ≡ marks_fitting k (length p)) (te : t ≡ over (marks (marks_fitting k (length p))) p) where
  stop : (n : ℕ) → n < k → n ≡ k → ⊥
  stop n a b = omega arith

  pub marks_put : m < k
      → ((m ≡ marks_fitting k (length p)) × (0 ≡ text_fitting k x (length p))) × (t ≡ over (due_fitting k x (length p)) p)
  marks_put h =
      let f = ne_eqb (marks_fitting k (length p)) k (stop (marks_fitting k (length p)) (omega arith)) in
      let z : text_fitting k x (length p) ≡ 0 = ap (λ (b : Bool). cond b (min (length p - 3 * marks_fitting k (length p)) (length x)) 0) f in
      ((me, sym z), te ∙ ap (λ (l : List ℕ). over l p) (sym (append-nil (marks (marks_fitting k (length p)))) ∙ ap (λ (n : ℕ). marks (marks_fitting k (length p)) ++ take n x) (sym z)))

  module _ (h : k ≤ m) (part : List ℕ) (n : ℕ) (ne : n ≡ length (fitting x (mid_of (3 * m) (length t - 3 * m) t)))
      (pe : part ≡ over (fitting x (mid_of (3 * m) (length t - 3 * m) t)) (mid_of (3 * m) (length t - 3 * m) t)) where
    at_is : 3 * m ≡ length (marks (marks_fitting k (length p)))
    at_is = ap (λ (n : ℕ). 3 * n) me ∙ sym (marks_length (marks_fitting k (length p)))

    same_length : length t ≡ length p
    same_length = ap length te ∙ length_over (marks (marks_fitting k (length p))) p (omega (arith, at_is, me))

    mid_length : length (mid_of (3 * m) (length t - 3 * m) t) ≡ length p - 3 * marks_fitting k (length p)
    mid_length =
        length-take-le (length t - 3 * m) (drop (3 * m) t) (omega (arith, length-drop (3 * m) t)) ∙ (λ i. same_length i - 3 * me i)

    abbrev y : List ℕ
    y = fitting x (mid_of (3 * m) (length t - 3 * m) t)

    text_is : text_fitting k x (length p) ≡ min (length p - 3 * marks_fitting k (length p)) (length x)
    text_is = ap (λ (b : Bool). cond b (min (length p - 3 * marks_fitting k (length p)) (length x)) 0) (eq-eqb (marks_fitting k (length p)) k (omega arith))

    y_is : y ≡ take (text_fitting k x (length p)) x
    y_is =
        ap (λ (j : ℕ). take j x) mid_length ∙ sym (take_min x (length p - 3 * marks_fitting k (length p)))
        ∙ ap (λ (j : ℕ). take j x) (min_swap (length x) (length p - 3 * marks_fitting k (length p)) ∙ sym text_is)
      where
        min_swap : (a b : ℕ) → min a b ≡ min b a
        min_swap a b = omega arith

    pub due_put : ((m ≡ marks_fitting k (length p)) × (n ≡ text_fitting k x (length p)))
        × (put_mid (3 * m) (length t - 3 * m) t part ≡ over (due_fitting k x (length p)) p)
    due_put =
        let l : length y ≡ text_fitting k x (length p) = ap length y_is ∙ length-take-le (text_fitting k x (length p)) x (omega (arith, text_is)) in (
          (me, ne ∙ l),
          wrote (marks (marks_fitting k (length p))) y p t part (3 * m) (length t - 3 * m) at_is te
              (omega (arith, length-take (length (mid_of (3 * m) (length t - 3 * m) t)) x, mid_length, same_length, me)) pe
              ∙ ap (λ (j : List ℕ). over (marks (marks_fitting k (length p)) ++ j) p) y_is,
        )
