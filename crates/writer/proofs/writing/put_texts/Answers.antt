use borrow.Rule.Slice.PartMut.{put_mid, mid_of}
use Rattle.base.specs.Arrays.{over}
use Rattle.base.proofs.Written.{Begun, begun_end, begun_last, lent_fits}
use Rattle.slots.specs.Slots.{slot_of, slot_text}
use Prim.Native.Nat.{ℕ, suc, ◌+◌, ◌-◌, ◌%◌, ◌≤◌, ◌<◌}
use mathlib.Core.Path.{◌≡◌, ◌∙◌, ap}
use mathlib.Core.List.{List}
use native.Mathlib.Omega.{arith}
use lib.ListN.{length, get_or}
use Rattle.carrying.proofs.Tags.{tag_below}
use Rattle.writer.specs.Internal.Parts.{text_at, waiting_at, texts_of}
use Rattle.writer.proofs.Turns.{turn_end, turn_room, turn_fits, turn_next}
use Rattle.writer.proofs.writing.put_texts.Goals as goal

pub put_text-at-requires : goal.put_text-at-requires
put_text-at-requires c =
    let a = c.args in
    let l = c.loop-i in
    let i = l.i in
    let room : length l.to ≡ length a.to.now =
    turn_room (text_at a.texts.now a.room a.carried.tags) (waiting_at a.texts.now a.room a.len) a.carried.count a.to.now l.to l.i l.at l.invariant.1 c.requires in
    let text : slot_text a.texts.now (slot_of a.room (i - 1 + 1)) (get_or a.carried.tags (i - 1) 0 % 256) ≡ text_at a.texts.now a.room a.carried.tags (l.i - 1) =
    let e : i - 1 + 1 ≡ suc (i - 1) = omega arith in
    ap (λ (back : ℕ). slot_text a.texts.now (slot_of a.room back) (get_or a.carried.tags (i - 1) 0 % 256)) e in
    let below : l.i - 1 < a.carried.count =
    tag_below a.carried.tags a.carried.count a.carried.first (l.i - 1) (omega (arith, l.invariant.0, c.loop-i-test.true)) c.if-tag-gt0.true in
    let fits : l.at + length (text_at a.texts.now a.room a.carried.tags (l.i - 1)) ≤ length l.to =
    omega (arith, room, turn_fits (text_at a.texts.now a.room a.carried.tags) (waiting_at a.texts.now a.room a.len) a.carried.count a.to.now l.to l.i l.at l.invariant.1 c.requires c.loop-i-test.true below) in
    (omega arith, rw text (lent_fits l.at (length (text_at a.texts.now a.room a.carried.tags (l.i - 1))) l.to fits))

pub loop-i-preserved-then-tag-gt0 : goal.loop-i-preserved-then-tag-gt0
loop-i-preserved-then-tag-gt0 c =
    let a = c.args in
    let l = c.loop-i in
    let i = l.i in
    let q = c.put_text-at in
    let text : slot_text a.texts.now (slot_of a.room (i - 1 + 1)) (get_or a.carried.tags (i - 1) 0 % 256) ≡ text_at a.texts.now a.room a.carried.tags (l.i - 1) =
    let e : i - 1 + 1 ≡ suc (i - 1) = omega arith in
    ap (λ (back : ℕ). slot_text a.texts.now (slot_of a.room back) (get_or a.carried.tags (i - 1) 0 % 256)) e in
    let below : l.i - 1 < a.carried.count =
    tag_below a.carried.tags a.carried.count a.carried.first (l.i - 1) (omega (arith, l.invariant.0, c.loop-i-test.true)) c.if-tag-gt0.true in
    let e : q.result ≡ length (text_at a.texts.now a.room a.carried.tags (l.i - 1)) = q.ensures.0 ∙ ap length text in
    let w = q.ensures.1 ∙ ap (λ (x : List ℕ). over x (mid_of l.at (length l.to - l.at) l.to)) text in
    (omega arith, rw e (turn_next (text_at a.texts.now a.room a.carried.tags) (waiting_at a.texts.now a.room a.len) a.carried.count a.to.now l.to l.i l.at l.invariant.1 c.requires c.loop-i-test.true below q.new.to w))

pub put_text-requires : goal.put_text-requires
put_text-requires c =
    let a = c.args in
    let l = c.loop-i in
    let room : length l.to ≡ length a.to.now =
    turn_room (text_at a.texts.now a.room a.carried.tags) (waiting_at a.texts.now a.room a.len) a.carried.count a.to.now l.to l.i l.at l.invariant.1 c.requires in
    let left : Begun (waiting_at a.texts.now a.room a.len) (texts_of a.texts.now a.room a.carried.tags a.len a.carried.count) a.to.now l.to l.at =
    turn_end (text_at a.texts.now a.room a.carried.tags) (waiting_at a.texts.now a.room a.len) a.carried.count a.to.now l.to l.i l.at l.invariant.1 c.loop-i-test.false in
    let ends : l.at + length (waiting_at a.texts.now a.room a.len) ≤ length l.to =
    omega (arith, room, begun_end (waiting_at a.texts.now a.room a.len) (texts_of a.texts.now a.room a.carried.tags a.len a.carried.count) a.to.now l.to l.at left c.requires, c.requires) in
    (omega arith, lent_fits l.at (length (waiting_at a.texts.now a.room a.len)) l.to ends)

pub returns : goal.returns
returns c =
    let a = c.args in
    let l = c.loop-i in
    let left : Begun (waiting_at a.texts.now a.room a.len) (texts_of a.texts.now a.room a.carried.tags a.len a.carried.count) a.to.now l.to l.at =
    turn_end (text_at a.texts.now a.room a.carried.tags) (waiting_at a.texts.now a.room a.len) a.carried.count a.to.now l.to l.i l.at l.invariant.1 c.loop-i-test.false in
    let whole : (part : List ℕ) → part ≡ over (waiting_at a.texts.now a.room a.len) (mid_of l.at (length l.to - l.at) l.to)
    → put_mid l.at (length l.to - l.at) l.to part ≡ over (texts_of a.texts.now a.room a.carried.tags a.len a.carried.count) a.to.now = λ part e. begun_last (waiting_at a.texts.now a.room a.len) (texts_of a.texts.now a.room a.carried.tags a.len a.carried.count) a.to.now l.to l.at left c.requires part e in
    whole c.put_text.new.to c.put_text.ensures.1
