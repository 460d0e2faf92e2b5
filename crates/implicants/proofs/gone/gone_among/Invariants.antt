use Rattle.implicants.specs.Upward.{AreGone}
use Rattle.implicants.proofs.gone.gone_among.Given as goal

abbrev pub invariant-loop-j : goal.invariant-loop-j
invariant-loop-j l = AreGone l.cells.all.items l.marks l.i l.best l.tried l.runs.items
