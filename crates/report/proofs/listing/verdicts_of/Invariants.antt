use Rattle.std.proofs.Common.{◌-◌}
use Rattle.report.proofs.Advances.{IsSpelledTo}
use Rattle.report.proofs.listing.verdicts_of.Given as goal

abbrev pub invariant-loop-i : goal.invariant-loop-i
invariant-loop-i l = IsSpelledTo l.s (l.i - 1) l.all.items l.span
