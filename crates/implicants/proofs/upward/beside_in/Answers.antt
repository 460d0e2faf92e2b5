use Rattle.std.proofs.Common.{sym, ◌∙◌}
use Rattle.implicants.proofs.Operands.{one_operand, two_operands}
use Rattle.implicants.proofs.upward.beside_in.Goals as goal

pub returns-in-Some-Some : goal.returns-in-Some-Some
returns-in-Some-Some c h =
    two_operands c.args.node.now c.in-Some-Some.p c.in-Some-Some.q c.args.k c.of_two.result.other (sym c.inputs.ensures.first ∙ c.in-Some-Some.is-0)
    (sym c.inputs.ensures.second ∙ c.in-Some-Some.is-1) (c.of_two.ensures h)

pub returns-in-Some-None : goal.returns-in-Some-None
returns-in-Some-None c h =
    one_operand c.args.node.now c.in-Some-None.p c.args.k c.of_one.result.other (sym c.inputs.ensures.first ∙ c.in-Some-None.is-0)
    (sym c.inputs.ensures.second ∙ c.in-Some-None.is-1) (c.of_one.ensures h)
