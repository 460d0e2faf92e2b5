use Rattle.std.proofs.Common.{length, ◌++◌}
use Rattle.std.specs.Prelude.{codes}
use Rattle.session_mux.specs.Saying.{Putting}
use Rattle.session_mux.proofs.saying.put_lines.Given as goal

abbrev pub invariant-loop-rest : goal.invariant-loop-rest
invariant-loop-rest l = Putting (l.tag ++ codes " ") l.text l.fn.out l.rest l.out l.waiting

abbrev pub decreases-loop-rest : goal.decreases-loop-rest
decreases-loop-rest l = length l.rest
