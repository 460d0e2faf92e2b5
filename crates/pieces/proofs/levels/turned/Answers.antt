use Rattle.rational.specs.Extended.{value_at}
use Rattle.rational.proofs.AffineLemmas.{opposite_same}
use Rattle.rational.proofs.Sames.{symᵉ, transᵉ}
use Rattle.pieces.proofs.levels.turned.Goals as goal

pub returns-in-Least-clause-steady : goal.returns-in-Least-clause-steady
returns-in-Least-clause-steady g c t u =
    let f = g.P.Shape.function c.args.constant.now in
    transᵉ (c.neg.ensures.value t) (transᵉ (opposite_same (value_at f t) (value_at f u) (c.requires.steady t u)) (symᵉ (c.neg.ensures.value u)))
