use Rattle.frac128.specs.Cuts.{place}
use Rattle.pieces.specs.Constants.{GivesFirst}
use Rattle.pieces.proofs.constants.steps_of.Given as goal

abbrev pub invariant-loop-i : goal.invariant-loop-i
invariant-loop-i g l = record { gives : GivesFirst g.P.Shape l.side (place l.at) l.levels.items l.i l.steps.items }
