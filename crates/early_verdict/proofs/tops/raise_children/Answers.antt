use Rattle.std.proofs.Common.{sym, subst, arith, ◌<◌}
use Rattle.std.specs.Prelude.{IfSome}
use Rattle.early_verdict.proofs.TopsLemmas.{both_asked, operand_there, operands_below}
use Rattle.early_verdict.proofs.tops.raise_children.Goals as goal

pub raise_some-requires : goal.raise_some-requires
raise_some-requires c =
    operand_there c.args.tops.now c.args.place c.inputs-left.result.0 c.requires.within
    (subst (λ o. IfSome o (λ p. p < c.args.place)) (sym c.inputs-left.ensures.first) (operands_below c.args.place c.args.node.now c.requires.below).0)

pub raise_some-requires-2 : goal.raise_some-requires-2
raise_some-requires-2 c =
    operand_there c.raise_some.new.tops c.args.place c.inputs-left.result.1 (omega (arith, c.requires.within))
    (subst (λ o. IfSome o (λ p. p < c.args.place)) (sym c.inputs-left.ensures.second) (operands_below c.args.place c.args.node.now c.requires.below).1)

pub returns : goal.returns
returns c =
    let one = c.raise_some.ensures in
    let two = c.raise_some-2.ensures in
    let k = both_asked c.args.node.now c.inputs-left.result.0 c.inputs-left.result.1 c.args.place c.args.to c.args.tops.now c.raise_some.new.tops
    c.raise_some-2.new.tops c.requires.below c.requires.to c.inputs-left.ensures.first c.inputs-left.ensures.second one.asked two.rises two.asked
    one.others two.others in
    record {
      asks = k.0;
      rises = λ j. let a = one.rises j in let b = two.rises j in omega (arith, a, b);
      others = k.1;
      most = λ m up l. two.most m (one.most m up l) l;
    }
