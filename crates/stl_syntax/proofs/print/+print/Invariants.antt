use Rattle.std.proofs.Common.{◌+◌, ◌*◌}
use Rattle.stl_syntax.proofs.print.+print.Given as goal

abbrev pub decreases-put_node : goal.decreases-put_node
decreases-put_node l = 2 * l.place

abbrev pub decreases-put_operand : goal.decreases-put_operand
decreases-put_operand l = 2 * l.place + 1
