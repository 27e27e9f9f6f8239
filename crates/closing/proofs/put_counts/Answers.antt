use Prim.Native.Nat.{ℕ}
use mathlib.Core.Path.{◌∙◌, ap}
use mathlib.Core.List.{List, [], ◌∷◌, ◌++◌}
use lib.ListN.{length}
use Rattle.journal_spec.specs.Lines.{decimal}
use Rattle.base.specs.Arrays.{over}
use Rattle.printing.specs.Fitting.{fitting}
use Rattle.closing.proofs.Lines.{line_runs}
use Rattle.printing.proofs.Written.{Put, more, all_put}
use Rattle.closing.proofs.put_counts.Goals as goal

pub returns : goal.returns
returns c =
    let a = c.args in
    let k1 = c.put_named-at in
    let k2 = c.put_named-at-2 in
    let k3 = c.put_named-at-3 in
    let k4 = c.put_named-at-4 in
    let k5 = c.put in
    let p = a.space.now in
    let first : Put ((10 ∷ 112 ∷ 97 ∷ 99 ∷ 107 ∷ 101 ∷ 116 ∷ 115 ∷ 32 ∷ []) ++ decimal a.packets) p k1.new.space k1.result =
    record { stands = k1.ensures.1; long = k1.ensures.0 } in
    let second = more first ((32 ∷ 108 ∷ 97 ∷ 116 ∷ 101 ∷ 32 ∷ []) ++ decimal a.late) k2.new.space k2.result k2.ensures.0 k2.ensures.1 in
    let third = more second ((32 ∷ 108 ∷ 111 ∷ 115 ∷ 116 ∷ 32 ∷ []) ++ decimal a.lost) k3.new.space k3.result k3.ensures.0 k3.ensures.1 in
    let fourth = more third ((32 ∷ 114 ∷ 101 ∷ 102 ∷ 117 ∷ 115 ∷ 101 ∷ 100 ∷ 32 ∷ []) ++ decimal a.refused) k4.new.space k4.result k4.ensures.0 k4.ensures.1 in
    let r = all_put (more fourth (10 ∷ []) k5.new.space k5.result k5.ensures.0 k5.ensures.1) in
    let e = line_runs a.packets a.late a.lost a.refused in
    (r.0 ∙ ap (λ (l : List ℕ). length (fitting l p)) e, r.1 ∙ ap (λ (l : List ℕ). over (fitting l p) p) e, r.2)
