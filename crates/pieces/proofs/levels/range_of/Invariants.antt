use Rattle.pieces.proofs.LevelsLemmas.{AreTurnedTo}
use Rattle.pieces.proofs.levels.range_of.Given as goal

abbrev pub invariant-loop-i : goal.invariant-loop-i
invariant-loop-i g l = record { turned : AreTurnedTo g.P.Shape l.side l.s.pieces l.i l.items.items }
