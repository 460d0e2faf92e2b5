use Rattle.std.proofs.Common.{sym, subst}
use Rattle.rational.proofs.PlaceLemmas.{le_of_before}
use Rattle.rational.specs.Places.{Before}
use Rattle.frac128.specs.Cuts.{place}
use Rattle.pieces.proofs.pieces.Pieces.join.Goals as goal

pub takes_first-taken-requires-clause-order : goal.takes_first-taken-requires-clause-order
takes_first-taken-requires-clause-order g c = le_of_before (place c.until-from.result) (place c.args.until.now)
    (subst (λ s. Before s (place c.args.until.now)) (sym c.until-from.ensures.value) c.requires.later)
