use Rattle.std.proofs.Common.{◌≡◌, refl, sym, subst}
use Rattle.pl_signal.specs.declared.faults.OpFault.TheVariants as F
use Rattle.pl_signal.specs.Faults.{IsNegatedPair, IsPairwise}
use Rattle.pl_signal.proofs.faults.OpFault.negated.Goals as goal

pub returns-in-Wide : goal.returns-in-Wide
returns-in-Wide g c =
    let is : c.args.self.now ≡ F.Wide c.in-Wide.pair = cc c.in-Wide.is in
    subst (λ f. IsPairwise (IsNegatedPair g.P.Shape) f (F.Wide c.negated.result)) (sym is) (c.negated.result, refl, c.negated.ensures)
