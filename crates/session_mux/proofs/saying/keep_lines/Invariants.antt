use Rattle.std.proofs.Common.{length}
use Rattle.session_mux.proofs.LineTexts.{Keeping}
use Rattle.session_mux.proofs.saying.keep_lines.Given as goal

abbrev pub invariant-loop-rest : goal.invariant-loop-rest
invariant-loop-rest l = Keeping l.text l.fn.recent l.rest l.recent

abbrev pub decreases-loop-rest : goal.decreases-loop-rest
decreases-loop-rest l = length l.rest
