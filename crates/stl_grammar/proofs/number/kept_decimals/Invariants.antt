use Rattle.std.proofs.Common.{◌≡◌, ◌≤◌, take, length}
use Rattle.stl_syntax.specs.Characters.{without_zeros}
use Rattle.stl_grammar.proofs.number.kept_decimals.Given as goal

abbrev pub invariant-loop-kept : goal.invariant-loop-kept
invariant-loop-kept l = (l.kept ≤ length l.decimals) × (without_zeros l.decimals ≡ without_zeros (take l.kept l.decimals))

abbrev pub decreases-loop-kept : goal.decreases-loop-kept
decreases-loop-kept l = l.kept
