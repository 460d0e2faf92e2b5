use Rattle.std.proofs.Common.{sym, subst}
use Rattle.rational.proofs.PlaceLemmas.{le_of_before}
use Rattle.rational.specs.Places.{Before}
use Rattle.frac128.specs.Value.{value}
use Rattle.frac128.specs.Cuts.{place}
use Rattle.pieces.specs.Best.{FallsFrom, RisesFrom}
use Rattle.pieces.proofs.pieces.Pieces.join_falling.Goals as goal

pub takes_falling-taken-requires-clause-falls : goal.takes_falling-taken-requires-clause-falls
takes_falling-taken-requires-clause-falls g c =
    subst (λ s. FallsFrom c.args.side s.at (value c.args.until.now.time) (g.P.Shape.function c.args.p.now)) (sym c.until_in_place.ensures) c.requires.falls

pub takes_falling-taken-requires-clause-rises : goal.takes_falling-taken-requires-clause-rises
takes_falling-taken-requires-clause-rises g c =
    subst (λ s. RisesFrom c.args.side s.at (value c.args.until.now.time) (g.P.Shape.function c.args.q.now)) (sym c.until_in_place.ensures) c.requires.rises

pub takes_falling-taken-requires-clause-order : goal.takes_falling-taken-requires-clause-order
takes_falling-taken-requires-clause-order g c = le_of_before (place c.until_in_place.result.now) (place c.args.until.now)
    (subst (λ s. Before s (place c.args.until.now)) (sym c.until_in_place.ensures) c.requires.later)
