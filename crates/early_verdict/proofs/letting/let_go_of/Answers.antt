use Rattle.early_verdict.proofs.letting.let_go_of.Goals as goal

pub let_go_at-requires-clause-operator : goal.let_go_at-requires-clause-operator
let_go_at-requires-clause-operator c = (c.node.result.now, c.node.ensures.node, c.is_atom.ensures.no c.if-is_atom.false)
