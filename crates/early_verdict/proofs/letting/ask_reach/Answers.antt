use Rattle.std.proofs.Common.{sym, subst, refl}
use Rattle.frac128.specs.Value.{value}
use Rattle.early_verdict.specs.Letting.{IsAskedReach}
use Rattle.early_verdict.proofs.letting.ask_reach.Goals as goal

pub returns-in-Until : goal.returns-in-Until
returns-in-Until c = subst (λ w. IsAskedReach w c.args.left c.args.right (value c.args.cut.now.time) c.args.shown.now c.ask_both.new.shown)
    (sym c.in-Until.is) c.ask_both.ensures

pub returns-in-Since : goal.returns-in-Since
returns-in-Since c = subst (λ w. IsAskedReach w c.args.left c.args.right (value c.args.cut.now.time) c.args.shown.now c.args.shown.now)
    (sym c.in-Since.is) refl
