use Rattle.std.proofs.Common.{pos, subst}
use Rattle.std.specs.Prelude.{neg_ℤ}
use Rattle.std.proofs.lemmas.Result.{IfErr-weaker, IfOk-weaker}
use Rattle.rational.proofs.Order.{le_of_lt}
use Rattle.pl_signal.specs.declared.joining.Side.TheVariants.{Least}
use Rattle.pieces.specs.Chains.{Tells, stop}
use Rattle.pieces.specs.Over.{BasesOver, HasCauseOver}
use Rattle.pieces.specs.Windows.{BestOver}
use Rattle.pieces.proofs.AheadOver.{reach_is}
use Rattle.pieces.proofs.BehindOver.{bases_behind, cause_behind, inf_is_behind, is_reach, reach_of}
use Rattle.pieces.proofs.windows.inf_behind.Goals as goal

pub best_over-requires-clause-last : goal.best_over-requires-clause-last
best_over-requires-clause-last g c = le_of_lt c.requires.last

pub returns-clause-worth : goal.returns-clause-worth
returns-clause-worth g c = IfOk-weaker c.best_over.result _ _
    (λ r h. inf_is_behind g.P.Shape c.args.s.now c.requires.first c.requires.last c.args.a c.args.low_in c.args.high_in c.best_over.ensures.normal c.args.b r
    (subst (λ o. Tells g.P.Shape (BestOver g.P.Shape c.args.s.now o Least) c.args.s.now.from (stop c.args.s.now) r)
    (reach_is c.behind.result (reach_of c.args.b) (neg_ℤ (pos c.args.a)) c.args.high_in c.args.low_in
    (is_reach c.args.b c.behind.result.low c.behind.ensures.low) c.behind.ensures.high c.behind.ensures.low_in c.behind.ensures.high_in) h))
    c.best_over.ensures.told

pub returns-clause-bases : goal.returns-clause-bases
returns-clause-bases g c = IfOk-weaker c.best_over.result _ _
    (λ r h. bases_behind g.P.Shape c.args.s.now c.requires.first c.requires.last c.args.a c.args.low_in c.args.high_in c.args.b r
    (subst (λ o. BasesOver g.P.Shape c.args.s.now o r)
    (reach_is c.behind.result (reach_of c.args.b) (neg_ℤ (pos c.args.a)) c.args.high_in c.args.low_in
    (is_reach c.args.b c.behind.result.low c.behind.ensures.low) c.behind.ensures.high c.behind.ensures.low_in c.behind.ensures.high_in) h))
    c.best_over.ensures.bases

pub returns-clause-wide : goal.returns-clause-wide
returns-clause-wide g c = IfErr-weaker c.best_over.result _ _
    (λ e h. cause_behind g.P.Shape c.args.s.now c.requires.first c.requires.last c.args.a c.args.low_in c.args.high_in c.args.b e
    (subst (λ o. HasCauseOver g.P.Shape c.args.s.now o e)
    (reach_is c.behind.result (reach_of c.args.b) (neg_ℤ (pos c.args.a)) c.args.high_in c.args.low_in
    (is_reach c.args.b c.behind.result.low c.behind.ensures.low) c.behind.ensures.high c.behind.ensures.low_in c.behind.ensures.high_in) h))
    c.best_over.ensures.wide
