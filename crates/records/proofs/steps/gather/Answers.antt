use lib.ListN.{length}
use borrow.Author.Rules.{rules}
use Rattle.journal_spec.specs.Contents.{longest_packet}
use Prim.Native.Nat.{◌≤◌}
use mathlib.Core.Path.{refl}
use native.Mathlib.Omega.{arith}
use Rattle.records.proofs.Pieces.{room, gathers}
use Rattle.records.proofs.steps.gather.Goals as goal

pub overflow_mul-more : goal.overflow_mul-more
overflow_mul-more c =
    let a = c.args in
    let big : longest_packet ≤ length a.packet.now = search rules in
    let k = c.pieces_end-to in
    let g = c.gather-count in
    let r = room a.size a.at k.result a.packet.now a.input.now c.requires.0 c.requires.2 big k.ensures.0
    k.ensures.1 k.ensures.2 c.requires.3 g.result g.ensures.value in
    omega arith

pub overflow_add-end : goal.overflow_add-end
overflow_add-end c =
    let a = c.args in
    let big : longest_packet ≤ length a.packet.now = search rules in
    let k = c.pieces_end-to in
    let g = c.gather-count in
    let r = room a.size a.at k.result a.packet.now a.input.now c.requires.0 c.requires.2 big k.ensures.0
    k.ensures.1 k.ensures.2 c.requires.3 g.result g.ensures.value in
    omega arith

pub shared_ref_as_front-piece_end : goal.shared_ref_as_front-piece_end
shared_ref_as_front-piece_end c =
    let a = c.args in
    let big : longest_packet ≤ length a.packet.now = search rules in
    let k = c.pieces_end-to in
    let g = c.gather-count in
    let r = room a.size a.at k.result a.packet.now a.input.now c.requires.0 c.requires.2 big k.ensures.0
    k.ensures.1 k.ensures.2 c.requires.3 g.result g.ensures.value in
    omega arith

pub overflow_add-result : goal.overflow_add-result
overflow_add-result c =
    let a = c.args in
    let big : longest_packet ≤ length a.packet.now = search rules in
    let k = c.pieces_end-to in
    let g = c.gather-count in
    let r = room a.size a.at k.result a.packet.now a.input.now c.requires.0 c.requires.2 big k.ensures.0
    k.ensures.1 k.ensures.2 c.requires.3 g.result g.ensures.value in
    omega arith

pub returns : goal.returns
returns c =
    let a = c.args in
    let big : longest_packet ≤ length a.packet.now = search rules in
    let k = c.pieces_end-to in
    let g = c.gather-count in
    gathers a.size a.at k.result a.packet.now a.input.now c.requires.0 c.requires.2 big k.ensures.0
    k.ensures.1 k.ensures.2 c.requires.3 g.result g.ensures.value g.new.space _ g.ensures.space_after refl _ _ _ (omega arith)
    (omega arith) c.piece_end.ensures
