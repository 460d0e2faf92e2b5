use Rattle.std.proofs.Common.{◌^◌, sym, subst}
use Rattle.rational.specs.Rational.{IsWithin}
use Rattle.rational.proofs.Order.{le_of_lt}
use Rattle.rational.proofs.Mixed.{within_between}
use Rattle.pl_signal.proofs.builder.put_two.Goals as goal

pub go_on-requires-2-clause-limited : goal.go_on-requires-2-clause-limited
go_on-requires-2-clause-limited g c = subst (IsWithin (2 ^ 34)) (sym c.go_on.ensures.on.ends)
    (within_between (2 ^ 34) c.requires.from_within c.requires.to_within (le_of_lt c.requires.after) (le_of_lt c.requires.before))
