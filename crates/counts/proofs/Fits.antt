-- Counts that fit, by plain facts; and that they still fit after one packet more.
use Rattle.std.proofs.Common.{◌≡◌, ℕ, ◌-◌, ◌*◌, ◌%◌, ◌<◌, ◌≤◌, true, ◌&&◌, leb, refl, ◌∙◌, arith, le-leb, leb-true}
use Rattle.base.proofs.Tests.{both, and_left, and_right}
use Rattle.receiver_spec.specs.Answers.{gives, is_break, is_jump, is_late, refuses, StepAnswer}
use Rattle.receiver_spec.specs.Record.{loss_of}
use Rattle.journal_spec.specs.Contents.{limit}
use Rattle.counts.specs.declared.Counts.{Counts}
use Rattle.counts.specs.Counts.{no_counts, counted, wrapped64, counts_fit, OneMore, Counting}

limit_is : limit ≡ 1099511627776
unfolding limit
limit_is = refl

pub record Fit (c : Counts) (left : ℕ) : Type 0 where
  pub short : left ≤ limit
  pub packets : c.packets ≤ limit - left
  pub late : c.late ≤ limit - left
  pub refused : c.refused ≤ limit - left
  pub lost : c.lost ≤ 65535 * (limit - left)

module _ (k : Counts) (left : ℕ) where
  pub facts : counts_fit k left ≡ true → Fit k left
  facts h =
      let n = limit - left in
      let a = leb left limit in
      let b = leb k.packets n in
      let c = leb k.late n in
      let d = leb k.refused n in
      let abcd = and_left (a && b && c && d) _ h in
      let abc = and_left (a && b && c) d abcd in
      let ab = and_left (a && b) c abc in
      record {
        short = leb-true left limit (and_left a b ab);
        packets = leb-true k.packets n (and_right a b ab);
        late = leb-true k.late n (and_right (a && b) c abc);
        refused = leb-true k.refused n (and_right (a && b && c) d abcd);
        lost = leb-true k.lost (65535 * n) (and_right (a && b && c && d) _ h);
      }

  pub holds : Fit k left → counts_fit k left ≡ true
  holds f =
      let n = limit - left in
      both (both (both (both (le-leb left limit f.short) (le-leb k.packets n f.packets)) (le-leb k.late n f.late))
      (le-leb k.refused n f.refused)) (le-leb k.lost (65535 * n) f.lost)

-- before the first byte
pub none_fit : counts_fit no_counts limit ≡ true
none_fit = holds no_counts limit record { short = omega arith; packets = omega arith; late = omega arith; refused = omega arith; lost = omega arith }

-- bytes were read
module _ (k : Counts) (left used : ℕ) (h : counts_fit k left ≡ true) (u : used ≤ left) where
  pub fit_behind : counts_fit k (left - used) ≡ true
  fit_behind =
      let f = facts k left h in
      let l = f.short in
      holds k (left - used)
      record { short = omega arith; packets = omega (arith, f.packets); late = omega (arith, f.late); refused = omega (arith, f.refused); lost = omega (arith, f.lost) }

  pub one_more : 0 < used → OneMore k (left - used)
  one_more v =
      let f = facts k left h in
      let l = f.short in
      record { packets = omega (arith, f.packets); late = omega (arith, f.late); refused = omega (arith, f.refused); lost = omega (arith, f.lost) }

-- an answer was counted, and nothing wraps
module _ (k : Counts) (left : ℕ) (m : OneMore k left) where
  abbrev Kept : Counts → Type 0
  Kept c = (wrapped64 c ≡ c) × (counts_fit c left ≡ true)

  kept : (c : Counts) → Fit c left → Kept c
  kept c f =
      let stays : (n : ℕ) → n ≤ 65535 * limit → n % 18446744073709551616 ≡ n = λ n h. omega (arith, limit_is) in (
        λ i. record {
          packets = stays c.packets (omega (arith, f.packets)) i;
          late = stays c.late (omega (arith, f.late)) i;
          lost = stays c.lost (omega (arith, f.lost)) i;
          refused = stays c.refused (omega (arith, f.refused)) i;
        },
        holds c left f,
      )

  pub counted_fits : (a : StepAnswer) → loss_of a < 65536 → Kept (counted a k)
  counted_fits (refuses n) h = kept _ record { short = omega (arith, m.packets); packets = omega (arith, m.packets); late = omega (arith, m.late); refused = omega (arith, m.refused); lost = omega (arith, m.lost) }
  counted_fits (is_late z) h = kept _ record { short = omega (arith, m.packets); packets = omega (arith, m.packets); late = omega (arith, m.late); refused = omega (arith, m.refused); lost = omega (arith, m.lost) }
  counted_fits (is_jump z) h = kept _ record { short = omega (arith, m.packets); packets = omega (arith, m.packets); late = omega (arith, m.late); refused = omega (arith, m.refused); lost = omega (arith, m.lost) }
  counted_fits (is_break g) h = kept _ record { short = omega (arith, m.packets); packets = omega (arith, m.packets); late = omega (arith, m.late); refused = omega (arith, m.refused); lost = omega (arith, m.lost) }
  counted_fits (gives g) h = kept _ record { short = omega (arith, m.packets); packets = omega (arith, m.packets); late = omega (arith, m.late); refused = omega (arith, m.refused); lost = omega (arith, m.lost) }

-- an answer was counted as numbers of 64 bits
pub counting : (k r : Counts) (a : StepAnswer) → loss_of a < 65536 → r ≡ wrapped64 (counted a k) → Counting a k r
counting k r a h e left m =
    let w = counted_fits k left m a h in
    let f : r ≡ counted a k = e ∙ w.0 in
    (f, rw f w.1)
