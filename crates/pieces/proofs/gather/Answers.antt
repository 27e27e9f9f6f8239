use Prim.Native.Nat.{ℕ, ◌+◌, ◌-◌, ◌*◌, ◌/◌, ◌<◌}
use mathlib.Core.Path.{◌≡◌, ◌∙◌, ap, sym}
use mathlib.Core.List.{List}
use native.Mathlib.Omega.{arith}
use Rattle.std.proofs.Common.{rules}
use Rattle.std.proofs.lemmas.Grind.{common_steps}
use lib.ListN.{length, get_or, drop, take, length-drop}
use lib.Seq.{paste, drop-drop}
use Rattle.pieces.proofs.Pieces.{no_room, cut_short, other_kind, one_more, front_kind, front_put}
use Rattle.pieces.proofs.gather.Goals as goal

pub returns-in-loop-record : goal.returns-in-loop-record
returns-in-loop-record c =
    let l = c.loop-record in
    let s = c.args.input.now in
    let short : length l.rest.now < 17 = search (rules, common_steps) in
    let d = cut_short _ _ _ l.count l.space l.invariant.gathered (omega (arith, short, ap (λ (x : List ℕ). length x) l.invariant.rest, length-drop (17 * l.count) s)) in
    record { value = d.0; space_after = d.1 }

pub returns-else-record-eq3 : goal.returns-else-record-eq3
returns-else-record-eq3 c =
    let l = c.loop-record in
    let s = c.args.input.now in
    let front : c.in-Some.record.now ≡ take 17 (drop (17 * l.count) s) = c.in-Some.ensures.cases.0 ∙ ap (take 17) l.invariant.rest in
    let d = other_kind _ s _ l.count l.space l.invariant.gathered (λ e. c.if-record-eq3.false (ap (λ (x : List ℕ). get_or x 0 0) front ∙ front_kind (17 * l.count) s ∙ e)) in
    record { value = d.0; space_after = d.1 }

pub loop-record-preserved : goal.loop-record-preserved
loop-record-preserved c =
    let l = c.loop-record in
    let p = c.args.space.now in
    let s = c.args.input.now in
    let put = c.copy_piece in
    let k = 17 * l.count in
    let front : c.in-Some.record.now ≡ take 17 (drop k s) = c.in-Some.ensures.cases.0 ∙ ap (take 17) l.invariant.rest in
    let long : length c.in-Some.after.now + 17 ≡ length l.rest.now = c.in-Some.ensures.cases.2 in
    let there : length l.rest.now ≡ length s - k = ap (λ (x : List ℕ). length x) l.invariant.rest ∙ length-drop k s in
    let e : put.new.space ≡ paste l.space (16 * l.count) (drop (k + 1) s) 16 =
    put.ensures ∙ (λ j. paste l.space (l.invariant.end j) (drop 1 (front j)) 16) ∙ front_put k s l.space (16 * l.count) in
    record {
      gathered = one_more (length p / 16) s p l.count l.space l.invariant.gathered (omega (arith, l.invariant.same)) (omega (arith, l.invariant.same)) (omega arith)
          (sym (front_kind k s) ∙ ap (λ (x : List ℕ). get_or x 0 0) (sym front) ∙ c.if-record-eq3.true) put.new.space e;
      same = put.auto.space ∙ l.invariant.same;
      rest = c.in-Some.ensures.cases.1 ∙ ap (drop 17) l.invariant.rest ∙ drop-drop 17 k s ∙ ap (λ (j : ℕ). drop j s) (omega arith);
      end = omega (arith, l.invariant.end);
      within = omega (arith, put.auto.space, c.if-space-end-ge-PIECE.true);
      read = omega (arith, l.invariant.read);
    }

pub returns-else-space-end-ge-PIECE : goal.returns-else-space-end-ge-PIECE
returns-else-space-end-ge-PIECE c =
    let l = c.loop-record in
    let d = no_room _ _ _ l.count l.space l.invariant.gathered (omega (arith, c.if-space-end-ge-PIECE.false, l.invariant.same, l.invariant.end)) in
    record { value = d.0; space_after = d.1 }
