use Rattle.std.proofs.Common.{sym, subst}
use Rattle.session_mux.specs.Muxes.{Muxed}
use Rattle.workbench.specs.Keeping.{AreSessionsOf}
use Rattle.workbench.proofs.many.ManyPush.into_kept.Goals as goal

pub returns : goal.returns
returns c = λ bytes text k.
    subst (λ (m : Muxed). AreSessionsOf c.args.self.formula bytes m) (sym c.into_mux.ensures) (k.seen, k.are, k.stands)
