use Rattle.std.proofs.Common.{◌≡◌, ◌≤◌, ◌==◌, length, drop, true}
use Rattle.stl_syntax.specs.Characters.{all}
use Rattle.trace_reader.proofs.number.without_zeros.Given as goal

abbrev pub invariant-loop-end : goal.invariant-loop-end
invariant-loop-end l = (l.end ≤ length l.decimals) × (all (λ c. c == 48) (drop l.end l.decimals) ≡ true)

abbrev pub decreases-loop-end : goal.decreases-loop-end
decreases-loop-end l = l.end
