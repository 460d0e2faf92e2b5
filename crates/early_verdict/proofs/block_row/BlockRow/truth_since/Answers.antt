use Rattle.std.proofs.Common.{sym, subst}
use Rattle.std.specs.Prelude.{IfSome}
use Rattle.atom_lines.specs.Points.{IsTruthOn}
use Rattle.early_verdict.specs.BlockRows.{own_row}
use Rattle.early_verdict.proofs.BlockLemmas.{row_before_is}
use Rattle.early_verdict.proofs.block_row.BlockRow.truth_since.Goals as goal

pub returns-clause-piece : goal.returns-clause-piece
returns-clause-piece c =
    let x = c.args.self.now in
    subst (λ o. IfSome o (λ q. IsTruthOn c.args.bound.now c.args.node q (own_row x) c.truth_from_row.result.0))
    (sym (row_before_is x.block.now x.at c.requires.after)) c.truth_from_row.ensures.piece
