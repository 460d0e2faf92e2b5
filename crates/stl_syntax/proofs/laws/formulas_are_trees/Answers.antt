use Rattle.stl_syntax.proofs.TreeLaw.{one_tree}
use Rattle.stl_syntax.proofs.laws.formulas_are_trees.Goals as goal

pub returns : goal.returns
returns c f h = one_tree f.nodes h.nodes.post_order h.root
