use Rattle.std.proofs.Common.{sym, ap, subst, ◌∙◌}
use Rattle.std.proofs.lemmas.Option.{same_Some}
use Rattle.early_verdict.specs.Deciding.{Kept as Early}
use Rattle.workbench.specs.Keeping.{IsEarlyOf}
use Rattle.early_stream.specs.declared.deciding.Deciding.{Deciding}
use Rattle.workbench.proofs.LeftByRun.{early_over}
use Rattle.workbench.proofs.leave.DecidingLeave.leave.Goals as goal

pub returns : goal.returns
returns c = λ bytes text done.
    let (x, is, of) = early_over bytes text c.args.live done in
    let same = same_Some _ _ (sym is ∙ sym c.into_follower.ensures ∙ c.in-Some.is) in
    subst (λ (k : Early). IsEarlyOf c.args.live.formula bytes k) (ap (λ (y : Deciding). y.early) same ∙ sym c.into_early.ensures) of
