use Rattle.std.proofs.Common.{◌≡◌}
use Rattle.stl_syntax.specs.Characters.{without_zeros}
use Rattle.stl_syntax.specs.Printing.{last_digits}
use Rattle.stl_syntax.proofs.decimals.put_decimals.Given as goal

abbrev pub invariant-loop-places : goal.invariant-loop-places
invariant-loop-places l = without_zeros (last_digits l.places l.decimals) ≡ without_zeros (last_digits l.initial.places l.initial.decimals)

abbrev pub decreases-loop-places : goal.decreases-loop-places
decreases-loop-places l = l.places
