use lib.ListN.{length}
use Rattle.journal_spec.specs.Contents.{longest_packet}
use Prim.Native.Nat.{◌≤◌}
use Rattle.journal.proofs.TakeLeaves.{behind_ready, behind_more, takes}
use borrow.Author.Rules.{rules}
use Rattle.journal.proofs.taking.take.Goals as goal

pub settle-requires : goal.settle-requires
settle-requires c =
    let a = c.args in
    let big : longest_packet ≤ length c.args.packet.now = search rules in
    let l = c.min-n in
    let r = c.read-done in (
      behind_ready a.s a.packet.now a.input.now c.requires.0 big l.result l.ensures r.result.reader _ r.result.used r.ensures c.requires.1 _ c.none.ensures,
      behind_more a.s a.packet.now a.input.now c.requires.0 big l.result l.ensures r.result.reader _ r.result.used r.ensures c.requires.1 _ c.none.ensures,
    )

pub returns : goal.returns
returns c =
    let a = c.args in
    let big : longest_packet ≤ length c.args.packet.now = search rules in
    let l = c.min-n in
    let r = c.read-done in
    let t = c.settle in
    takes a.s a.packet.now a.input.now c.requires.0 big l.result l.ensures r.result.reader _ r.result.used r.ensures c.requires.1 _ c.none.ensures _ _
    t.ensures.0 t.ensures.1
