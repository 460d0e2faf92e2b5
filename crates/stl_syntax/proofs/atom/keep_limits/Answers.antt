use Rattle.std.proofs.Common.{subst}
use Rattle.std.proofs.lemmas.List.{take_all}
use Rattle.std.proofs.lemmas.List.Elements.{All-more}
use Rattle.std.specs.Prelude.{All}
use Rattle.stl_syntax.specs.WellFormed.{IsTermInLimits}
use Rattle.stl_syntax.proofs.atom.keep_limits.Goals as goal

pub loop-term-preserved : goal.loop-term-preserved
loop-term-preserved c =
    All-more IsTermInLimits c.args.terms.now c.loop-term.term-index c.term-item.result c.loop-term-test.true c.loop-term.invariant
    (subst IsTermInLimits c.term-item.is c.coef.ensures.limits)

pub returns : goal.returns
returns c = subst (All IsTermInLimits) (take_all c.loop-term.term-index c.args.terms.now c.loop-term-test.false) c.loop-term.invariant
