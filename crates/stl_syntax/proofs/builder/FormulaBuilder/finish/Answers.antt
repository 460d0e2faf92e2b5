use Rattle.stl_syntax.proofs.WellFormedLemmas.{root_some}
use Rattle.stl_syntax.proofs.builder.FormulaBuilder.finish.Goals as goal

pub of-requires-clause-some : goal.of-requires-clause-some
of-requires-clause-some c = root_some c.self.inside.nodes.items (rw c.self.view_is c.requires.root)
