-- Traces whose expressions differ by no more than a number.
use Rattle.rational.specs.Time.{Rational, Within, add, ◌≤ʳ◌}
use Rattle.stl_syntax.specs.Trace.{Trace, start, stop}
use Rattle.stl_syntax.specs.Formula.{Subformula, constant, atom, negation, conjunction, disjunction}
use Rattle.stl_syntax.specs.Formula.{implication, until, eventually, always, since, once, historically}
use Rattle.stl_syntax.specs.Truth.{expression}

-- the two numbers differ by at most e
pub record IsClose (e x y : Rational) : Type 0 where
  pub low : x ≤ʳ add y e
  pub high : y ≤ʳ add x e

-- for each atom of the formula the expressions of the two traces differ by at most e at each time of the domain
abbrev pub AreClose : Rational → Trace → Trace → Subformula → Type 0
AreClose e tr tr' (constant b) = Unit {0}
AreClose e tr tr' (atom i a) = (t : Rational) → Within (start tr) (stop tr) t → IsClose e (expression a tr t) (expression a tr' t)
AreClose e tr tr' (negation p) = AreClose e tr tr' p
AreClose e tr tr' (conjunction p q) = AreClose e tr tr' p × AreClose e tr tr' q
AreClose e tr tr' (disjunction p q) = AreClose e tr tr' p × AreClose e tr tr' q
AreClose e tr tr' (implication p q) = AreClose e tr tr' p × AreClose e tr tr' q
AreClose e tr tr' (until a b p q) = AreClose e tr tr' p × AreClose e tr tr' q
AreClose e tr tr' (eventually a b a_in b_in p) = AreClose e tr tr' p
AreClose e tr tr' (always a b a_in b_in p) = AreClose e tr tr' p
AreClose e tr tr' (since a b p q) = AreClose e tr tr' p × AreClose e tr tr' q
AreClose e tr tr' (once a b a_in b_in p) = AreClose e tr tr' p
AreClose e tr tr' (historically a b a_in b_in p) = AreClose e tr tr' p
