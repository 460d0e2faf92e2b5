use Rattle.std.proofs.Common.{◌∙◌, sym, ap, subst}
use Rattle.rational.specs.Places.{Before}
use Rattle.frac128.specs.Cuts.{place}
use Rattle.pieces.specs.Chains.{IsNormal, stop}
use Rattle.pieces.specs.Building.{IsNew}
use Rattle.pieces.proofs.BuildingLemmas.{chain_of}
use Rattle.pieces.proofs.Lasts.{put_new}
use Rattle.pieces.proofs.pieces.Pieces.append.Goals as goal

pub invariant_of-self-2 : goal.invariant_of-self-2
invariant_of-self-2 g c =
    let from = place c.self.inside.from in
    let kept = ap (λ ps. chain_of from ps) c.reserve.ensures.items in
    let old = kept ∙ c.self.view_is in
    let new = subst (λ o. IsNew g.P.Shape o.pieces c.args.shape.now) (sym old) c.requires.new in
    (put_new g.P.Shape from c.reserve.new.self.items c.push_reserved.new.self.items c.args.until.now c.args.shape.now
    (subst (λ o. IsNormal g.P.Shape o) (sym kept) c.self.invariant)
    (subst (λ o. Before (stop o) (place c.args.until.now)) (sym old) c.requires.later) new.differs new.needed c.push_reserved.ensures.items).normal
