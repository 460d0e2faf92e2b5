use Rattle.std.proofs.Common.{ap}
use Rattle.stl_syntax.specs.PostOrder.{unused}
use Rattle.stl_syntax.proofs.builder.FormulaBuilder.new.Goals as goal

pub returns-clause-unused : goal.returns-clause-unused
unfolding unused
returns-clause-unused c = ap unused c.new.ensures.items
