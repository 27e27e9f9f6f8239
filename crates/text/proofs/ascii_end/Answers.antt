use Rattle.std.proofs.Common.{rules, tests, length, take, ◌-◌, drop}
use Rattle.std.proofs.lemmas.Iterator.{YieldsList-from_slice}
use Rattle.std.proofs.lemmas.Iterator.Search.{position_from_yields_List}
use Rattle.text.proofs.FirstOther.{other, end_of}
use Rattle.text.proofs.ascii_end.Goals as goal

pub returns : goal.returns
returns c =
    let s = c.args.bytes.now in
    let w = c.wide_end-wide.result in
    let rest = take (length s - w) (drop w s) in
    rw c.unwrap_or.ensures (end_of s w c.position.result c.wide_end-wide.ensures.0 c.wide_end-wide.ensures.1
    (position_from_yields_List other _ _ c.position.result c.position.ensures.ran (YieldsList-from_slice rest c.iter.ensures.rest) (λ x b q k. search (rules, tests))))
