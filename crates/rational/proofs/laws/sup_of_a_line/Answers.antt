use Rattle.rational.specs.Extended.{minus_infinity, infinity}
use Rattle.rational.proofs.ExtendedLemmas.{below_infinity}
use Rattle.rational.proofs.Sups.{spans_gap, sup_of_line, inf_of_line, below_sup, above_inf}
use Rattle.rational.proofs.laws.sup_of_a_line.Goals as goal

pub returns-clause-sup : goal.returns-clause-sup
returns-clause-sup c = λ f l r s h g. sup_of_line minus_infinity s f (spans_gap l r h) tt g

pub returns-clause-inf : goal.returns-clause-inf
returns-clause-inf c = λ f l r s h g. inf_of_line infinity s f (spans_gap l r h) (below_infinity s) g

pub returns-clause-sup_not_reached : goal.returns-clause-sup_not_reached
returns-clause-sup_not_reached c = λ f l u r s n h g. below_sup s f n h.above h.below g

pub returns-clause-inf_not_reached : goal.returns-clause-inf_not_reached
returns-clause-inf_not_reached c = λ f l u r s n h g. above_inf s f n h.above h.below g
