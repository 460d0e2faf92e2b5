use Rattle.whole_answers.specs.Answering.{IsStackOf}
use Rattle.whole_answers.proofs.signals.root_of_nodes.Given as goal

abbrev pub invariant-loop-i : goal.invariant-loop-i
invariant-loop-i g l = IsStackOf g.P.Shape g.P.AtomShape.reading l.fn.case l.i l.stack
