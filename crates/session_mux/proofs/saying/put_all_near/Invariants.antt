use Rattle.std.proofs.Common.{length, ◌++◌}
use Rattle.std.specs.Prelude.{codes}
use Rattle.session_mux.specs.Saying.{Putting}
use Rattle.session_mux.proofs.saying.put_all_near.Given as goal

abbrev pub invariant-loop-at : goal.invariant-loop-at
invariant-loop-at l = Putting (l.tag ++ codes " ") l.text l.initial.out l.rest l.out l.waiting

abbrev pub decreases-loop-at : goal.decreases-loop-at
decreases-loop-at l = length l.rest
