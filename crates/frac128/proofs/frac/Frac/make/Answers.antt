use Rattle.std.proofs.Common.{rules, to_z-of_z}
use Rattle.rational.specs.Rational.{fraction, ◌≈◌}
use Rattle.rational.proofs.Lowest.{denominator_of_mixed, denominator_same}
use Rattle.frac128.specs.Value.{value}
use Rattle.frac128.proofs.Making.{not_wide}
use Rattle.frac128.proofs.frac.Frac.make.Goals as goal

pub returns-in-Some-clause-wide : goal.returns-in-Some-clause-wide
returns-in-Some-clause-wide c =
    let f = c.quotient.result in
    let same : value f ≈ fraction c.args.num c.args.den = search (rules, to_z-of_z, c.in-Some.ensures) in
    not_wide (fraction c.args.num c.args.den) f.den
    (denominator_same f.den same (denominator_of_mixed f.whole f.rest f.den f.positive f.lowest)) f.small
