use Rattle.std.proofs.Common.{◌∙◌, sym, subst}
use Rattle.offline_eval.specs.Evaluation.{AreClosed, AreSignalsOf}
use Rattle.offline_eval.proofs.SignalsAndChains.{signals_tell}
use Rattle.offline_eval.proofs.evaluation.eval.Goals as goal

pub signals_of-requires : goal.signals_of-requires
signals_of-requires g c = subst (AreClosed g.P.Shape) (sym c.list.ensures) (λ k x at. (c.in-Ok.ensures.sound k x at).limited)

pub returns-in_ok-signals-in-Ok : goal.returns-in_ok-signals-in-Ok
returns-in_ok-signals-in-Ok g c =
    let are = subst (λ cs. AreSignalsOf g.P.Shape cs c.in_ok-signals-in-Ok.signals.items) c.list.ensures c.in_ok-signals-in-Ok.ensures in
    record {
      count = are.count ∙ c.in-Ok.ensures.count;
      told = λ s over atoms. signals_tell g.P.Shape c.args.formula.now.nodes s c.in-Ok.chains c.in_ok-signals-in-Ok.signals.items are
          (c.in-Ok.ensures.told s over atoms);
      wide = tt;
      steps = c.eval_chains.ensures.steps;
    }
