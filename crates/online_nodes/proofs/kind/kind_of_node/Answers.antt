use Rattle.std.proofs.Common.{ap, ◌∙◌}
use Rattle.online_nodes.specs.Operators.{kind_by}
use Rattle.online_nodes.proofs.KindLemmas.{kind_of_by}
use Rattle.online_nodes.proofs.kind.kind_of_node.Goals as goal

pub kind_of_view-requires : goal.kind_of_view-requires
kind_of_view-requires c = c.view.ensures.near

pub returns : goal.returns
returns c = c.kind_of_view.ensures ∙ ap kind_by c.view.ensures.view ∙ kind_of_by c.args.node.now
