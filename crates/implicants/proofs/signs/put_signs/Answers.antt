use Rattle.std.proofs.Common.{length, sym, subst}
use Rattle.stl_syntax.specs.Formula.{HasChildrenBelow}
use Rattle.implicants.proofs.Operands.{first_below, second_below}
use Rattle.implicants.proofs.signs.put_signs.Goals as goal

pub put_sign-requires : goal.put_sign-requires
put_sign-requires c = first_below c.args.node.now (length c.args.signs.now.items) c.inputs-first.result.0 c.inputs-first.ensures.first c.requires.below

pub put_sign-requires-2 : goal.put_sign-requires-2
put_sign-requires-2 c = second_below c.args.node.now (length c.put_sign.new.signs.items) c.inputs-first.result.1 c.inputs-first.ensures.second
    (subst (λ n. HasChildrenBelow n c.args.node.now) (sym c.put_sign.ensures.count) c.requires.below)
