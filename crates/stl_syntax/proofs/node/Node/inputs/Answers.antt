use Rattle.std.proofs.Common.{◌++◌, ◌∙◌, ap}
use Rattle.std.specs.Prelude.{option_to_list}
use Rattle.stl_syntax.specs.Views.{first_of, second_of, view_of}
use Rattle.stl_syntax.proofs.ViewLaw.{children_by}
use Rattle.stl_syntax.proofs.node.Node.inputs.Goals as goal

pub returns-clause-all : goal.returns-clause-all
returns-clause-all c =
    ap (λ o. option_to_list o ++ option_to_list c.inputs.result.1) (c.inputs.ensures.first ∙ ap first_of c.view.ensures.view)
    ∙ ap (λ o. option_to_list (first_of (view_of c.args.self.now)) ++ option_to_list o) (c.inputs.ensures.second ∙ ap second_of c.view.ensures.view)
    ∙ children_by c.args.self.now
