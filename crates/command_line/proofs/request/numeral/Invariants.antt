use Rattle.std.proofs.Common.{◌≤◌}
use Rattle.command_line.proofs.NumberWords.{IsReadTo}
use Rattle.command_line.proofs.request.numeral.Given as goal

abbrev pub invariant-loop-i : goal.invariant-loop-i
invariant-loop-i l = IsReadTo l.bytes l.i l.value × (l.value ≤ l.most)
