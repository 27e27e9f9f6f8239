use lib.ListN.{length}
use borrow.Author.Rules.{rules}
use mathlib.Core.Path.{◌≡◌, ◌∙◌, sym}
use native.Mathlib.Omega.{arith}
use Rattle.journal.proofs.GiveLeaves.{gave, gives}
use Rattle.journal.proofs.FillLeaves.{from, last, eats, took_fits, fewer, again}
use Rattle.journal.proofs.filling.fill.Goals as goal

pub returns-then-not-reads : goal.returns-then-not-reads
returns-then-not-reads c =
    let l = c.loop-transcript in
    let g = c.give-gave in
    let w = gives l.transcript l.packet (from l.count l.space) l.invariant.still l.invariant.long g.result.due g.result.count g.new.space g.ensures.due_value.0 g.ensures.due_value.1 g.ensures.space_after in
    let h = sym c.reads.ensures ∙ c.if-not-reads.true in
    last c.args.s c.args.packet.now c.args.input.now c.args.space.now l.transcript l.packet l.space l.used l.count l.invariant (gave l.transcript g.result.due) g.new.space g.result.count w h

pub take-taken-requires : goal.take-taken-requires
take-taken-requires c =
    let l = c.loop-transcript in
    let g = c.give-gave in
    let w = gives l.transcript l.packet (from l.count l.space) l.invariant.still l.invariant.long g.result.due g.result.count g.new.space g.ensures.due_value.0 g.ensures.due_value.1 g.ensures.space_after in
    let h = sym c.reads.ensures ∙ c.if-not-reads.false in
    (w.still, eats c.args.s c.args.packet.now c.args.input.now c.args.space.now l.transcript l.packet l.space l.used l.count l.invariant (gave l.transcript g.result.due) g.new.space g.result.count w h)

pub overflow_add-used : goal.overflow_add-used
overflow_add-used c =
    let l = c.loop-transcript in
    let g = c.give-gave in
    let w = gives l.transcript l.packet (from l.count l.space) l.invariant.still l.invariant.long g.result.due g.result.count g.new.space g.ensures.due_value.0 g.ensures.due_value.1 g.ensures.space_after in
    let t = c.take-taken in
    let h = sym c.reads.ensures ∙ c.if-not-reads.false in
    omega (arith, took_fits c.args.s c.args.packet.now c.args.input.now c.args.space.now l.transcript l.packet l.space l.used l.count l.invariant (gave l.transcript g.result.due) g.new.space g.result.count w h t.result.transcript t.new.packet t.result.used t.ensures)

pub loop-transcript-smaller : goal.loop-transcript-smaller
loop-transcript-smaller c =
    let l = c.loop-transcript in
    let g = c.give-gave in
    let w = gives l.transcript l.packet (from l.count l.space) l.invariant.still l.invariant.long g.result.due g.result.count g.new.space g.ensures.due_value.0 g.ensures.due_value.1 g.ensures.space_after in
    let t = c.take-taken in
    let h = sym c.reads.ensures ∙ c.if-not-reads.false in
    fewer c.args.s c.args.packet.now c.args.input.now c.args.space.now l.transcript l.packet l.space l.used l.count l.invariant (gave l.transcript g.result.due) g.new.space g.result.count w h t.result.transcript t.new.packet t.result.used t.ensures

pub loop-transcript-preserved : goal.loop-transcript-preserved
loop-transcript-preserved c =
    let l = c.loop-transcript in
    let g = c.give-gave in
    let w = gives l.transcript l.packet (from l.count l.space) l.invariant.still l.invariant.long g.result.due g.result.count g.new.space g.ensures.due_value.0 g.ensures.due_value.1 g.ensures.space_after in
    let t = c.take-taken in
    let same : length t.new.packet ≡ length l.packet = search rules in
    let h = sym c.reads.ensures ∙ c.if-not-reads.false in
    again c.args.s c.args.packet.now c.args.input.now c.args.space.now l.transcript l.packet l.space l.used l.count l.invariant (gave l.transcript g.result.due) g.new.space g.result.count w h t.result.transcript t.new.packet t.result.used t.ensures same
