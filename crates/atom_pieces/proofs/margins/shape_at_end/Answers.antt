use Rattle.std.proofs.Common.{◌-◌, inl}
use Rattle.pieces.proofs.ReadUpTo.{shape_at}
use Rattle.atom_pieces.proofs.margins.shape_at_end.Goals as goal

pub returns-in-Equal-clause-shape : goal.returns-in-Equal-clause-shape
returns-in-Equal-clause-shape c = inl (shape_at c.args.chain.now.pieces (c.len-count.result - 1) c.piece.result.now c.piece.ensures)
