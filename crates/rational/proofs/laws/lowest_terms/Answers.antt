use Rattle.rational.proofs.Lowest.{has_denominator, denominator_unique}
use Rattle.rational.proofs.laws.lowest_terms.Goals as goal

pub returns-clause-one : goal.returns-clause-one
returns-clause-one c = has_denominator

pub returns-clause-no_other : goal.returns-clause-no_other
returns-clause-no_other c = λ x y d e s h k. denominator_unique d e s h k
