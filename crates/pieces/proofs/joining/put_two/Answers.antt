use Rattle.std.proofs.Common.{◌^◌, sym, subst}
use Rattle.rational.specs.Rational.{IsWithin}
use Rattle.rational.specs.Places.{Before}
use Rattle.frac128.specs.Cuts.{place}
use Rattle.pieces.proofs.joining.put_two.Goals as goal

pub go_on-requires-2-clause-limited : goal.go_on-requires-2-clause-limited
go_on-requires-2-clause-limited g c = subst (λ s. IsWithin (2 ^ 34) s.at) (sym c.go_on.ensures.on.ends) c.requires.middle_within

pub go_on-requires-2-clause-later : goal.go_on-requires-2-clause-later
go_on-requires-2-clause-later g c = subst (λ s. Before s (place c.args.until.now)) (sym c.go_on.ensures.on.ends) c.requires.before
