use Prim.Native.Nat.{ℕ}
use mathlib.Core.Path.{◌≡◌, ◌∙◌, ap}
use mathlib.Core.List.{List, ◌++◌}
use lib.ListN.{length, take}
use borrow.Author.Rules.{rules}
use Rattle.journal_spec.specs.Lines.{decimal}
use Rattle.base.specs.Arrays.{over}
use Rattle.printing.specs.Fitting.{fitting}
use Rattle.closing.proofs.Lines.{decimal_is, twenty}
use Rattle.printing.proofs.Written.{Put, more, all_put}
use Rattle.closing.proofs.put_named.Goals as goal

pub returns : goal.returns
returns c =
    let a = c.args in
    let f = c.put-at in
    let d = c.decimal-k in
    let k = c.put in
    let p = a.space.now in
    let t = twenty d.result a.n d.ensures.len (search rules) in
    let e : take d.result d.new.out ≡ decimal a.n = d.ensures.digits ∙ decimal_is d.result a.n t d.ensures.len in
    let named = λ (l : List ℕ). a.name.now ++ l in
    let first : Put a.name.now p f.new.space f.result = record { stands = f.ensures.1; long = f.ensures.0 } in
    let r = all_put (more first (take d.result d.new.out) k.new.space k.result k.ensures.0 k.ensures.1) in
    (r.0 ∙ ap (λ (l : List ℕ). length (fitting (named l) p)) e, r.1 ∙ ap (λ (l : List ℕ). over (fitting (named l) p) p) e, r.2)
