use Rattle.std.proofs.Common.{sym, ap, subst, ◌∙◌}
use Rattle.std.proofs.lemmas.Option.{same_Some}
use Rattle.online_robust.specs.Nets.{Parts}
use Rattle.margin_stream.specs.declared.margins.Margins.{Margins}
use Rattle.workbench.specs.Keeping.{IsNetOf}
use Rattle.workbench.proofs.LeftByRun.{margins_over}
use Rattle.workbench.proofs.leave.MarginsLeave.leave.Goals as goal

pub returns : goal.returns
returns c = λ bytes text done.
    let (x, is, of) = margins_over bytes text c.args.live done in
    let same = same_Some _ _ (sym is ∙ sym c.into_follower.ensures ∙ c.in-Some.is) in
    subst (λ (k : Parts). IsNetOf c.args.live.formula bytes k) (ap (λ (y : Margins). y.net) same ∙ sym c.into_net.ensures) of
