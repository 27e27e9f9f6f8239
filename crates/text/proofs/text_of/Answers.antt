use Prim.Native.Nat.{ℕ, ◌+◌, ◌<◌, ◌≤◌, ◌-◌}
use mathlib.Core.Path.{◌≡◌, ◌∙◌, ap, sym}
use mathlib.Core.List.{List}
use mathlib.Core.Option.{some}
use native.Mathlib.Omega.{arith}
use lib.ListN.{length, get_or, take, drop}
use Rattle.std.proofs.lemmas.Grind.{common_steps}
use borrow.Author.Rules.{rules}
use Rattle.text.specs.declared.Owed.{Owed}
use Rattle.text.specs.Owed.{owes}
use Rattle.text_spec.specs.Utf8.{owed_after, begins, text_from}
use Rattle.text_spec.proofs.Walks.{on_at}
use Rattle.base.specs.Every.{Every}
use Rattle.text_spec.proofs.Ascii.{Ascii, ascii_at}
use Rattle.base.proofs.Slices.{mid_rest}
use Rattle.text.proofs.Owes.{owes_none, owes_ascii}
use Rattle.text.proofs.text_of.Goals as goal

-- one byte more, where so many letters begin with it
module _ (s : List ℕ) (o : Owed) (n at b : ℕ) (h : at < length s) (e : b ≡ begins (owes o)) where
  one_more : (p : Owed) → owed_after (owes o) (get_or s at 0) ≡ some (owes p) → text_from (owes o) n at (drop at s) ≡ text_from (owes p) (n + b) (at + 1) (drop (at + 1) s)
  one_more p f = on_at (owes o) n at s h f ∙ ap (λ (k : ℕ). text_from (owes p) (n + k) (at + 1) (drop (at + 1) s)) (sym e)

  -- an ASCII one, where nothing is owed
  ascii_letter : o.tails ≡ 0 → get_or s at 0 < 0x80 → text_from (owes o) n at (drop at s) ≡ text_from (owes o) (n + b) (at + 1) (drop (at + 1) s)
  ascii_letter z g = one_more o (owes_ascii o (get_or s at 0) z g)

  -- and a run of them behind it
  ascii_run : o.tails ≡ 0 → get_or s at 0 < 0x80 → (m : ℕ) → m ≤ length (take (length s - (at + 1)) (drop (at + 1) s))
      → Every Ascii (take m (take (length s - (at + 1)) (drop (at + 1) s)))
      → text_from (owes o) n at (drop at s) ≡ text_from (owes o) (n + b + m) (at + 1 + m) (drop (at + 1 + m) s)
  ascii_run z g m l f =
      let d = mid_rest (at + 1) s in
      ascii_letter z g ∙ rw (owes_none o z) (ascii_at s (n + b) (at + 1) m (rw d at l) (rw d at f))

pub loop-at-preserved-then-run-eq8 : goal.loop-at-preserved-then-run-eq8
loop-at-preserved-then-run-eq8 c =
    let l = c.loop-at in
    let s = c.args.bytes.now in
    let b = c.begins-characters in
    let a : get_or s l.at 0 < 0x80 = grind (arith, common_steps) in (
      search rules,
      omega (arith, b.ensures.1),
      omega arith,
      l.invariant.3
          ∙ ascii_run s l.owed l.characters l.at b.result c.loop-at-test.true b.ensures.0 c.if-owed-eq0.true a
          c.ascii_end-more.result c.ascii_end-more.ensures.0 c.ascii_end-more.ensures.1,
    )
