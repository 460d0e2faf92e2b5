use Rattle.std.proofs.Common.{pos, subst}
use Rattle.std.proofs.lemmas.Result.{IfErr-weaker, IfOk-weaker}
use Rattle.rational.proofs.Order.{le_of_lt}
use Rattle.pl_signal.specs.declared.joining.Side.TheVariants.{Greatest}
use Rattle.pieces.specs.Chains.{Tells, stop}
use Rattle.pieces.specs.Over.{BasesOver, HasCauseOver}
use Rattle.pieces.specs.Windows.{BestOver}
use Rattle.pieces.proofs.AheadOver.{bases_ahead, cause_ahead, sup_is_ahead, reach_is}
use Rattle.pieces.proofs.windows.sup_ahead.Goals as goal

pub best_over-requires-clause-last : goal.best_over-requires-clause-last
best_over-requires-clause-last g c = le_of_lt c.requires.last

pub returns-clause-worth : goal.returns-clause-worth
returns-clause-worth g c = IfOk-weaker c.best_over.result _ _
    (λ r h. sup_is_ahead g.P.Shape c.args.s.now c.best_over.ensures.normal c.args.a c.args.b c.args.low_in c.args.high_in r
    (subst (λ o. Tells g.P.Shape (BestOver g.P.Shape c.args.s.now o Greatest) c.args.s.now.from (stop c.args.s.now) r)
    (reach_is c.ahead.result (pos c.args.a) (pos c.args.b) c.args.low_in c.args.high_in
    c.ahead.ensures.low c.ahead.ensures.high c.ahead.ensures.low_in c.ahead.ensures.high_in) h))
    c.best_over.ensures.told

pub returns-clause-bases : goal.returns-clause-bases
returns-clause-bases g c = IfOk-weaker c.best_over.result _ _
    (λ r h. bases_ahead g.P.Shape c.args.s.now c.best_over.ensures.normal c.args.a c.args.b c.args.low_in c.args.high_in r
    (subst (λ o. BasesOver g.P.Shape c.args.s.now o r)
    (reach_is c.ahead.result (pos c.args.a) (pos c.args.b) c.args.low_in c.args.high_in
    c.ahead.ensures.low c.ahead.ensures.high c.ahead.ensures.low_in c.ahead.ensures.high_in) h))
    c.best_over.ensures.bases

pub returns-clause-wide : goal.returns-clause-wide
returns-clause-wide g c = IfErr-weaker c.best_over.result _ _
    (λ e h. cause_ahead g.P.Shape c.args.s.now c.args.a c.args.b c.args.low_in c.args.high_in e
    (subst (λ o. HasCauseOver g.P.Shape c.args.s.now o e)
    (reach_is c.ahead.result (pos c.args.a) (pos c.args.b) c.args.low_in c.args.high_in
    c.ahead.ensures.low c.ahead.ensures.high c.ahead.ensures.low_in c.ahead.ensures.high_in) h))
    c.best_over.ensures.wide
