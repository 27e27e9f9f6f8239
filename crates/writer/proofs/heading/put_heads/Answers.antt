use lib.ListN.{set}
use Rattle.base.specs.Arrays.{over}
use Rattle.base.proofs.Written.{Begun, begun_end, begun_store, lent_fits}
use borrow.Rule.Slice.PartMut.{put_mid, mid_of}
use Prim.Native.Nat.{ℕ, ◌+◌, ◌-◌, ◌≤◌, ◌<◌}
use mathlib.Core.Path.{◌≡◌, ◌∙◌, refl, ap, subst}
use mathlib.Core.List.{[], ◌∷◌, ◌++◌}
use native.Mathlib.Omega.{arith}
use lib.ListN.{length, length-append, length-reverse}
use borrow.Author.Rules.{rules}
use Rattle.std.proofs.lemmas.Iterator.Consumers.{YieldsList-at, YieldsList-turn, YieldsList-end}
use Rattle.std.proofs.lemmas.Iterator.Adapters.{YieldsList-from_rev_slice}
use Rattle.packet_spec.specs.Limits.{level}
use Rattle.carrying.proofs.Tags.{tag_below}
use Rattle.writer.specs.Internal.Headers.{header_for, header_at, headers_for}
use Rattle.writer.proofs.Turns.{Turn, turn_end, turn_room, turn_fits, turn_next}
use Rattle.writer.proofs.FromLast.{from_last}
use Rattle.writer.proofs.heading.put_heads.Goals as goal

pub put_head-requires : goal.put_head-requires
unfolding level
put_head-requires c =
    let a = c.args in
    let l = c.loop-tag in
    let tags = a.carried.tags in
    let long : length tags ≡ level = search rules in
    let turn = YieldsList-turn (YieldsList-at c.into_iter-tag-iterator.ensures.into_iter_gives (YieldsList-from_rev_slice tags (cc)))
    l.yielded _ l.yielded_by _ _ c.in-Some.tag c.in-Some.is c.next.ensures.steps in
    let tag = from_last tags long (length l.yielded) c.in-Some.tag.now turn.0 turn.1 in
    let i = level - length l.yielded in
    let room : length l.to ≡ length a.to.now =
    turn_room (header_at a.t140 tags) (a.t140 ∷ []) a.carried.count a.to.now l.to i l.at l.invariant.1 c.requires.1 in
    let below : i - 1 < a.carried.count =
    tag_below tags a.carried.count a.carried.first (i - 1) (omega (arith, tag.0)) (subst (λ (m : ℕ). 0 < m) tag.1 c.if-tag-gt0.true) in
    let fits : l.at + 4 ≤ length a.to.now =
    turn_fits (header_at a.t140 tags) (a.t140 ∷ []) a.carried.count a.to.now l.to i l.at l.invariant.1 c.requires.1 (omega (arith, tag.0)) below in
    (c.requires.0, lent_fits l.at 4 l.to (omega (arith, room, fits)))

pub loop-tag-preserved-then-tag-gt0 : goal.loop-tag-preserved-then-tag-gt0
unfolding level
loop-tag-preserved-then-tag-gt0 c =
    let a = c.args in
    let l = c.loop-tag in
    let q = c.put_head in
    let tags = a.carried.tags in
    let long : length tags ≡ level = search rules in
    let turn = YieldsList-turn (YieldsList-at c.into_iter-tag-iterator.ensures.into_iter_gives (YieldsList-from_rev_slice tags (cc)))
    l.yielded _ l.yielded_by _ _ c.in-Some.tag c.in-Some.is c.next.ensures.steps in
    let tag = from_last tags long (length l.yielded) c.in-Some.tag.now turn.0 turn.1 in
    let i = level - length l.yielded in
    let below : i - 1 < a.carried.count =
    tag_below tags a.carried.count a.carried.first (i - 1) (omega (arith, tag.0)) (subst (λ (m : ℕ). 0 < m) tag.1 c.if-tag-gt0.true) in
    let more = length-append l.yielded (c.in-Some.tag ∷ []) in
    let left : i - 1 ≡ level - length (l.yielded ++ (c.in-Some.tag ∷ [])) = omega (arith, more) in
    let head = q.ensures ∙ ap (λ (m : ℕ). over (header_for a.t140 m) (mid_of l.at (length l.to - l.at) l.to)) tag.1 in (
      omega (arith, more, tag.0),
      subst (λ (i : ℕ). Turn (header_at a.t140 tags) (a.t140 ∷ []) a.carried.count a.to.now (put_mid l.at (length l.to - l.at) l.to q.new.to) i (l.at + 4)) left
          (turn_next (header_at a.t140 tags) (a.t140 ∷ []) a.carried.count a.to.now l.to i l.at l.invariant.1 c.requires.1 (omega (arith, tag.0)) below q.new.to head),
    )

pub bounds-to-at : goal.bounds-to-at
unfolding level
bounds-to-at c =
    let a = c.args in
    let l = c.loop-tag in
    let tags = a.carried.tags in
    let long : length tags ≡ level = search rules in
    let all = YieldsList-end (YieldsList-at c.into_iter-tag-iterator.ensures.into_iter_gives (YieldsList-from_rev_slice tags (cc)))
    l.yielded _ l.yielded_by _ _ c.in-None.is c.next.ensures.steps in
    let i = level - length l.yielded in
    let room : length l.to ≡ length a.to.now =
    turn_room (header_at a.t140 tags) (a.t140 ∷ []) a.carried.count a.to.now l.to i l.at l.invariant.1 c.requires.1 in
    let left : Begun (a.t140 ∷ []) (headers_for a.t140 tags a.carried.count) a.to.now l.to l.at =
    turn_end (header_at a.t140 tags) (a.t140 ∷ []) a.carried.count a.to.now l.to i l.at l.invariant.1 (omega (arith, all.1, long, length-reverse tags)) in
    let ends : l.at + 1 ≡ length (headers_for a.t140 tags a.carried.count) =
    begun_end (a.t140 ∷ []) (headers_for a.t140 tags a.carried.count) a.to.now l.to l.at left c.requires.1 in
    omega (arith, room, ends)

pub returns : goal.returns
unfolding level
returns c =
    let a = c.args in
    let l = c.loop-tag in
    let tags = a.carried.tags in
    let long : length tags ≡ level = search rules in
    let all = YieldsList-end (YieldsList-at c.into_iter-tag-iterator.ensures.into_iter_gives (YieldsList-from_rev_slice tags (cc)))
    l.yielded _ l.yielded_by _ _ c.in-None.is c.next.ensures.steps in
    let left : Begun (a.t140 ∷ []) (headers_for a.t140 tags a.carried.count) a.to.now l.to l.at =
    turn_end (header_at a.t140 tags) (a.t140 ∷ []) a.carried.count a.to.now l.to (level - length l.yielded) l.at l.invariant.1 (omega (arith, all.1, long, length-reverse tags)) in
    let whole : set l.to l.at a.t140 ≡ over (headers_for a.t140 tags a.carried.count) a.to.now =
    begun_store (a.t140 ∷ []) (headers_for a.t140 tags a.carried.count) a.to.now l.to l.at left c.requires.1 a.t140 refl in
    whole
