use Rattle.std.proofs.Common.{◌≡◌, ◌≤◌, length, drop, true}
use Rattle.stl_syntax.specs.Characters.{is_space, all}
use Rattle.trace_reader.proofs.field.trim_end.Given as goal

abbrev pub invariant-loop-end : goal.invariant-loop-end
invariant-loop-end l = (l.end ≤ length l.text) × (all is_space (drop l.end l.text) ≡ true)

abbrev pub decreases-loop-end : goal.decreases-loop-end
decreases-loop-end l = l.end
