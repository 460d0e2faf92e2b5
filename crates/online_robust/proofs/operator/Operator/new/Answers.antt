use Rattle.std.proofs.Common.{◌≡◌, ◌∙◌, Option, Some, ap, refl, sym, subst}
use Rattle.stl_syntax.specs.Views.{view_of}
use Rattle.stl_syntax.specs.declared.node.Node.{Node}
use Rattle.stl_syntax.specs.declared.operator.View.{View}
use Rattle.online_nodes.specs.StreamedWide.{IsUnstreamed}
use Rattle.online_robust.specs.Operators.{operator_by}
use Rattle.online_robust.specs.Steps.{IsFirstOperator}
use Rattle.online_robust.specs.declared.operator.Operator.{Operator}
use Rattle.online_robust.proofs.FirstOperators.{IsReach, first_operator, unstreamed_by}
use Rattle.online_robust.proofs.operator.Operator.new.Goals as goal

-- what is made by the node's view stands for the node
made : (n : Node) (v w : View) (o : Option Operator) → ¬ IsUnstreamed n → v ≡ view_of n → v ≡ w → o ≡ operator_by w → IsFirstOperator n o
made n v w o streamed view is by = subst (IsFirstOperator n) (ap operator_by (sym view ∙ is) ∙ sym by) (first_operator n streamed)

pub returns-in-Const : goal.returns-in-Const
returns-in-Const c = made c.args.node.now c.view.result _ _ c.requires.streamed c.view.ensures.view c.in-Const.is refl

pub returns-in-Atom : goal.returns-in-Atom
returns-in-Atom c = made c.args.node.now c.view.result _ _ c.requires.streamed c.view.ensures.view c.in-Atom.is refl

pub returns-in-Not : goal.returns-in-Not
returns-in-Not c =
    made c.args.node.now c.view.result _ _ c.requires.streamed c.view.ensures.view c.in-Not.is (ap (λ o. Some o) c.negation.ensures)

pub returns-in-Two : goal.returns-in-Two
returns-in-Two c = made c.args.node.now c.view.result _ _ c.requires.streamed c.view.ensures.view c.in-Two.is (ap (λ o. Some o) c.two.ensures)

pub returns-in-Over : goal.returns-in-Over
returns-in-Over c = made c.args.node.now c.view.result _ _ c.requires.streamed c.view.ensures.view c.in-Over.is (ap (λ o. Some o) c.over.ensures)

pub unreachable-requires : goal.unreachable-requires
unreachable-requires c =
    absurd (c.requires.streamed (unstreamed_by c.args.node.now (subst IsReach (sym c.in-Reach.is ∙ c.view.ensures.view) tt)))
