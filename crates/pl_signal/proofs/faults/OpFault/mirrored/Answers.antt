use Rattle.std.proofs.Common.{◌≡◌, to_z, of_z, w64, refl, sym, subst}
use Rattle.std.proofs.lemmas.Int.{to_z-of_z}
use Rattle.pl_signal.specs.declared.faults.OpFault.TheVariants as F
use Rattle.pl_signal.specs.Faults.{IsMirroredPair, IsPairwise}
use Rattle.pl_signal.proofs.faults.OpFault.mirrored.Goals as goal

pub returns-in-Wide : goal.returns-in-Wide
returns-in-Wide g c =
    let e : to_z w64 (of_z w64 c.args.about) ≡ c.args.about = to_z-of_z w64 c.args.about c.ranges.about in
    let is : c.args.self.now ≡ F.Wide c.in-Wide.pair = cc c.in-Wide.is in
    let other = F.Wide c.mirrored.result in
    subst (λ z. IsPairwise (IsMirroredPair g.P.Shape z) c.args.self.now other) e
    (subst (λ f. IsPairwise (IsMirroredPair g.P.Shape (to_z w64 (of_z w64 c.args.about))) f other) (sym is)
    (c.mirrored.result, refl, c.mirrored.ensures))
