use Rattle.std.proofs.Common.{take}
use Rattle.std.specs.Prelude.{All}
use Rattle.stl_syntax.specs.WellFormed.{IsTermInLimits}
use Rattle.stl_syntax.proofs.atom.keep_limits.Given as goal

abbrev pub invariant-loop-term : goal.invariant-loop-term
invariant-loop-term l = All IsTermInLimits (take l.term-index l.terms)
