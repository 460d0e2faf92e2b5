use Rattle.session_mux.proofs.LastLines.{AreLast}
use Rattle.session_mux.proofs.recent.last_lines.Given as goal

abbrev pub invariant-loop-line : goal.invariant-loop-line
invariant-loop-line l = AreLast l.text l.from l._line
