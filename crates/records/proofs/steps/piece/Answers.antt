use Prim.Native.Nat.{ℕ, ◌-◌, ◌≤◌, min}
use mathlib.Core.Path.{◌≡◌, sym}
use lib.ListN.{length, take}
use borrow.Author.Rules.{rules}
use borrow.Rule.Slice.PartMut.{put_mid, mid_of}
use Rattle.base.specs.Arrays.{over}
use Rattle.journal_spec.specs.Contents.{longest_packet}
use mathlib.Core.Path.{◌∙◌, ap}
use Prim.Native.Nat.{◌+◌}
use Rattle.parts.specs.declared.Part.{Part}
use Rattle.reading.specs.Reading.{with}
use Rattle.records.proofs.Turns.{turn_part, turn_end}
use Rattle.records.proofs.steps.piece.Goals as goal
use Rattle.records.proofs.steps.piece.Goals.{then-used-n, else-used-n}

pub returns : goal.returns
returns c =
    let a = c.args in
    let u = c.put-used in
    let long : length a.packet.now ≡ 1488 = search rules in
    let big : longest_packet ≤ length a.packet.now = search rules in
    let ue : u.result ≡ min (min a.n (length a.input.now)) (length (mid_of a.r.at (length a.packet.now - a.r.at) a.packet.now)) =
    u.ensures.value ∙ ap (λ (k : ℕ). min (min a.n (length a.input.now)) (length (mid_of a.r.at (k - a.r.at) a.packet.now))) (sym long) in
    let us : u.new.space ≡ over (take u.result a.input.now) (mid_of a.r.at (length a.packet.now - a.r.at) a.packet.now) =
    u.ensures.space_after ∙ ap (λ (k : ℕ). over (take u.result a.input.now) (mid_of a.r.at (k - a.r.at) a.packet.now)) (sym long) in
    let with_part = λ (q : Part). with a.r q (a.r.at + u.result) in
    elim c.if-used-n.branch [
      | then-used-n w ↦ turn_part a.r a.packet.now a.input.now a.n u.result c.requires.0 c.requires.1 c.requires.2 big ue u.new.space _ us (ap (λ (k : ℕ). put_mid a.r.at (k - a.r.at) a.packet.now u.new.space) (sym long)) w.if-used-n.true _ (c.with.ensures ∙ ap with_part w.part-is)
      | else-used-n w ↦ turn_end a.r a.packet.now a.input.now a.n u.result c.requires.0 c.requires.1 c.requires.2 big ue u.new.space _ us (ap (λ (k : ℕ). put_mid a.r.at (k - a.r.at) a.packet.now u.new.space) (sym long)) w.if-used-n.false w.piece_end-part.result w.piece_end-part.ensures _ (c.with.ensures ∙ ap with_part w.part-is)
    ]
