use Rattle.std.proofs.Common.{refl}
use Rattle.online_nodes.proofs.BelongLemmas.{stands_first}
use Rattle.online_nodes.proofs.operator.Operator.new.Goals as goal

pub returns-clause-stands : goal.returns-clause-stands
returns-clause-stands c = λ header e unread.
    stands_first _ header _ e c.node.result.now c.node.ensures.node c.requires.no_atom c.kind_of_node.ensures refl unread
