use Rattle.std.proofs.Common.{◌≡◌, refl}
use Rattle.std.specs.Prelude.{Some, slice_get}
use Rattle.std.proofs.lemmas.Option.{slice_get_read}
use Rattle.stl_syntax.specs.Formula.{HasChildrenBelow}
use Rattle.stl_syntax.proofs.FormulaLemmas.{subformula-at}
use Rattle.stl_syntax.proofs.HorizonLemmas.{horizon_within}
use Rattle.stl_syntax.proofs.PostOrderLemmas.{placed}
use Rattle.stl_syntax.proofs.formula.Formula.node.Goals as goal
use Rattle.stl_syntax.proofs.formula.Formula.node.Goals.{After-index}

at : (c : goal.After-index) → slice_get c.self.inside.nodes.items c.args.i ≡ Some c.index.result.now
at c = slice_get_read _ _ _ _ refl (rw (← c.self.view_is) at c.requires) c.index.ensures

below : (c : goal.After-index) → HasChildrenBelow c.args.i c.index.result.now
below c = placed c.self.inside.nodes.items c.args.i c.index.result.now c.self.invariant.nodes.post_order (at c)

pub returns-clause-below : goal.returns-clause-below
returns-clause-below c = below c

pub returns-clause-subformula : goal.returns-clause-subformula
returns-clause-subformula c =
    rw (← c.self.view_is) (subformula-at c.self.inside.nodes.items c.args.i c.index.result.now (at c) (below c))

pub returns-clause-horizon : goal.returns-clause-horizon
returns-clause-horizon c =
    rw (← c.self.view_is) (horizon_within c.self.inside.nodes.items c.args.i c.self.invariant.nodes.post_order (rw (← c.self.view_is) at c.requires))
