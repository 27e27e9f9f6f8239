-- What `give` leaves, and that its text lies within the packet.
use Prim.Native.Nat.{ℕ, ◌+◌, ◌-◌, ◌*◌, ◌≤◌}
use mathlib.Core.Path.{◌≡◌, ◌∙◌, ap, sym}
use mathlib.Core.List.{List}
use mathlib.Core.Bool.{true, ◌||◌}
use native.Mathlib.Omega.{arith}
use borrow.Author.Tests.{ltb-false, leb-true, le-leb}
use lib.Dec.{ltb, leb}
use lib.ListN.{length, take, drop, length-take, length-drop}
use lib.Seq.{slice, drop-drop, length-take-le}
use Rattle.base.specs.Arrays.{part, over}
use Rattle.base.proofs.Tests.{by_test, or_left, and_left, and_right, both}
use Rattle.base.proofs.Fronts.{drop_take}
use Rattle.base.proofs.PartOf.{part_mid}
use Rattle.base.proofs.Slices.{mid_slice}
use Rattle.journal_spec.specs.Contents.{longest_packet}
use Rattle.printing.specs.Fitting.{marks_fitting, text_fitting, due_fitting}
use Rattle.printing.proofs.Fitting.{fitting_length, fitting_fits}
use Rattle.due.specs.declared.Due.{Due}
use Rattle.due.specs.Due.{due_within, text_due, left_of}

part_short : (f t : ℕ) (p : List ℕ) → length (part f t p) ≤ t - f
part_short f t p =
    by_test P (ltb t f || ltb (length p) t) (λ _. omega arith)
    (λ h. cut (ltb-false t f (or_left (ltb t f) (ltb (length p) t) h)))
  where
    P : List ℕ → Type 0
    P l = length l ≤ t - f

    cut : f ≤ t → P (slice f t p)
    cut h = rw (← (mid_slice f t p h)) (omega (arith, length-take (t - f) (drop f p)))

-- m marks and k bytes of the text t went into the space x
module _ (d : Due) (p t x : List ℕ) (te : t ≡ text_due d p) (m k : ℕ)
    (me : m ≡ marks_fitting d.marks (length x)) (ke : k ≡ text_fitting d.marks t (length x)) where
  pub place_fits : d.from + k ≤ d.from + (d.to - d.from)
  place_fits = omega (arith, ke, fitting_fits d.marks t (length x), ap length te, part_short d.from d.to p)

  pub count_fits : 3 * m + k ≤ length x
  count_fits = omega (arith, me, ke, fitting_fits d.marks t (length x))

  pub gave : (d' : Due) (n : ℕ) (x' : List ℕ) → d' ≡ record { marks = d.marks - m; from = d.from + k; to = d.to } → n ≡ 3 * m + k
      → x' ≡ over (due_fitting d.marks t (length x)) x
      → (d' ≡ left_of d p (length x)) × (n ≡ length (due_fitting d.marks (text_due d p) (length x))) × (x' ≡ over (due_fitting d.marks (text_due d p) (length x)) x)
  gave d' n x' e f g =
      let kk : k ≡ text_fitting d.marks (text_due d p) (length x) = ke ∙ ap (λ (y : List ℕ). text_fitting d.marks y (length x)) te in (
        e ∙ (λ i. record { marks = d.marks - me i; from = d.from + kk i; to = d.to }),
        f ∙ (λ i. 3 * me i + kk i) ∙ sym (fitting_length d.marks (text_due d p) (length x)),
        g ∙ ap (λ (y : List ℕ). over (due_fitting d.marks y (length x)) x) te,
      )

-- text that lies within the longest packet lies within the lent one
module _ (d : Due) (p : List ℕ) (ok : due_within d ≡ true) (long : longest_packet ≤ length p) where
  pub lies : (d.from ≤ d.to) × (d.to ≤ longest_packet)
  lies = (
    leb-true d.from d.to (and_left (leb d.from d.to) (leb d.to longest_packet) ok),
    leb-true d.to longest_packet (and_right (leb d.from d.to) (leb d.to longest_packet) ok),
  )

  pub text_is : text_due d p ≡ take (d.to - d.from) (drop d.from p)
  text_is = part_mid d.from d.to p lies.0 (omega (arith, lies.1))

  pub text_length : length (text_due d p) ≡ d.to - d.from
  text_length = ap length text_is ∙ length-take-le (d.to - d.from) (drop d.from p) (omega (arith, length-drop d.from p, lies))

  module _ (n : ℕ) where
    abbrev k : ℕ
    k = text_fitting d.marks (text_due d p) n

    few : d.from + k ≤ d.to
    few = omega (arith, fitting_fits d.marks (text_due d p) n, text_length, lies)

    pub left_within : due_within (left_of d p n) ≡ true
    left_within = both (le-leb (d.from + k) d.to few) (le-leb d.to longest_packet lies.1)

    pub left_text : text_due (left_of d p n) p ≡ drop k (text_due d p)
    left_text =
        let z : d.to - (d.from + k) ≡ d.to - d.from - k = omega arith in
        part_mid (d.from + k) d.to p few (omega (arith, lies.1))
        ∙ ap (λ (j : ℕ). take j (drop (d.from + k) p)) z
        ∙ ap (take (d.to - d.from - k)) (sym (drop-drop k d.from p))
        ∙ sym (drop_take k (d.to - d.from) (drop d.from p))
        ∙ ap (drop k) (sym text_is)
