use Rattle.std.proofs.Common.{sym, ◌∙◌}
use Rattle.implicants.proofs.NodeCells.{same_told}
use Rattle.implicants.proofs.AddedRuns.{joined_in}
use Rattle.implicants.proofs.runs.joined.Goals as goal

pub returns : goal.returns
returns c = joined_in c.args.a.now c.args.b.now c.make.result
    (same_told c.cmp.result c.is_eq.result c.cmp.ensures c.is_eq.ensures c.if-not-is_eq.false) (sym c.either.ensures ∙ c.if-not-either.false) c.make.ensures
