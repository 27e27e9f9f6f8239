use Rattle.std.proofs.Common.{◌≡◌, ◌∙◌, ℕ, suc, ◌+◌, ◌-◌, ap, sym, arith}
use Rattle.packet_spec.specs.Redundancy.{Head}
use Rattle.block_headers.specs.Headers.{head_at}
use Rattle.blocks.specs.Places.{back}
use Rattle.blocks.proofs.start_back.Goals as goal

pub loop-done-preserved : goal.loop-done-preserved
loop-done-preserved c =
    let a = c.args in
    let p = a.bytes.now in
    let l = c.loop-done in
    let behind = c.saturating_sub-behind-in-loop-done in
    let n : a.back - l.done ≡ suc (a.back - (l.done + 1)) = omega arith in
    let f : l.at - (head_at p behind.result).len ≡ c.saturating_sub-at.result = omega (arith, ap (λ (x : Head). x.len) c.head_at-head.ensures.0) in
    l.invariant
    ∙ ap (back p l.behind l.at) n
    ∙ ap (λ (k : ℕ). back p k (l.at - (head_at p k).len) (a.back - (l.done + 1))) (sym behind.ensures)
    ∙ ap (λ (k : ℕ). back p behind.result k (a.back - (l.done + 1))) f
