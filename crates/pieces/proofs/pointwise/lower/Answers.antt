use Rattle.pieces.proofs.CombiningLemmas.{causes_of_faults}
use Rattle.pieces.proofs.pointwise.lower.Goals as goal

pub returns-clause-cause : goal.returns-clause-cause
returns-clause-cause g c = causes_of_faults g.P.Shape c.args.a.now c.args.b.now c.combined.result c.combined.ensures.wide
