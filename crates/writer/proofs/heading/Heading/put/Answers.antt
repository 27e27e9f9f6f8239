use Prim.Native.Nat.{ℕ, ◌+◌, ◌%◌, ◌≤◌}
use mathlib.Core.Path.{◌≡◌, ◌∙◌, refl, ap, sym}
use mathlib.Core.List.{List, ◌++◌}
use native.Mathlib.Omega.{arith}
use lib.ListN.{length}
use Rattle.base.specs.Arrays.{over}
use Rattle.base.proofs.Written.{wrote_both, lent_fits}
use Rattle.packet_spec.specs.Encoding.{fixed_header}
use Rattle.writer.specs.declared.heading.Heading.{Heading}
use Rattle.writer.specs.Internal.Headers.{headers_for, second_of}
use Rattle.writer.proofs.Headers.{heads_plain, heads_redundant}
use Rattle.writer.proofs.heading.Heading.put.Goals as goal

-- the header, and the block headers
abbrev header : Heading → List ℕ
header h = fixed_header (second_of h) h.sequence h.timestamp h.source

abbrev heads : Heading → List ℕ → ℕ → List ℕ
heads h tags n = headers_for (h.t140 % 128) tags n

pub returns-else-self-ne0 : goal.returns-else-self-ne0
returns-else-self-ne0 c =
    let a = c.args in
    let h = a.self in
    let e = heads_plain h a.carried.tags a.carried.count c.if-self-ne0.false in
    c.put_header.ensures
    ∙ (λ i. over (fixed_header (c.second.ensures i) h.sequence h.timestamp h.source) a.to.now)
    ∙ ap (λ (x : List ℕ). over (header h ++ x) a.to.now) (sym e)

pub put_heads-requires : goal.put_heads-requires
put_heads-requires c =
    let a = c.args in
    let h = a.self in
    let redundant = heads_redundant h a.carried.tags a.carried.count c.if-self-ne0.true in
    let room : 12 + length (heads h a.carried.tags a.carried.count) ≤ length a.to.now = omega (arith, c.requires, ap length redundant) in
    let headed : length c.put_header.new.to ≡ length a.to.now = c.put_header.auto.to in
    (omega arith, lent_fits 12 (length (heads h a.carried.tags a.carried.count)) c.put_header.new.to (omega (arith, headed, room)))

pub returns-then-self-ne0 : goal.returns-then-self-ne0
returns-then-self-ne0 c =
    let a = c.args in
    let h = a.self in
    let tags = a.carried.tags in
    let count = a.carried.count in
    let redundant = heads_redundant h tags count c.if-self-ne0.true in
    let room : 12 + length (heads h tags count) ≤ length a.to.now = omega (arith, c.requires, ap length redundant) in
    let headed = c.put_header.ensures ∙ (λ i. over (fixed_header (c.second.ensures i) h.sequence h.timestamp h.source) a.to.now) in
    wrote_both (header h) (heads h tags count) a.to.now c.put_header.new.to c.put_heads.new.to 12 refl headed room c.put_heads.ensures
    ∙ ap (λ (x : List ℕ). over (header h ++ x) a.to.now) (sym redundant)
