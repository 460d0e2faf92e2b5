use Rattle.rational.proofs.Lines.{lt_at, lt_at_falls, same_lines}
use Rattle.rational.proofs.Through.{at_through_left, at_through_right}
use Rattle.rational.proofs.laws.lines.Goals as goal

pub returns-clause-rising : goal.returns-clause-rising
returns-clause-rising c = λ f t u p h. lt_at f p h

pub returns-clause-falling : goal.returns-clause-falling
returns-clause-falling c = λ f t u p h. lt_at_falls f p h

pub returns-clause-two_points : goal.returns-clause-two_points
returns-clause-two_points c = λ l r p v w. (at_through_left l r p v w, at_through_right l r p v w)

pub returns-clause-one_line : goal.returns-clause-one_line
returns-clause-one_line c = λ f g l r t h j k. same_lines f g h j k t
