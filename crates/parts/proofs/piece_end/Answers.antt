use Rattle.std.proofs.Common.{◌∙◌, sym, true, false}
use Rattle.parts.proofs.Zeros.{end_by_test}
use Rattle.parts.proofs.piece_end.Goals as goal

pub returns-then-are_zeros : goal.returns-then-are_zeros
returns-then-are_zeros c = end_by_test c.args.size c.args.pieces.now true c.if-pieces-size.false (sym c.if-are_zeros.true ∙ c.are_zeros.ensures)

pub returns-else-are_zeros : goal.returns-else-are_zeros
returns-else-are_zeros c = end_by_test c.args.size c.args.pieces.now false c.if-pieces-size.false (sym c.if-are_zeros.false ∙ c.are_zeros.ensures)
