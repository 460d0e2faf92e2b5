use Rattle.rational.proofs.Order.{same_refl, same_sym}
use Rattle.frac128.specs.Value.{value}
use Rattle.pl_signal.proofs.Places.{says_equal, says_later}
use Rattle.pl_signal.proofs.sample.Next.of.Goals as goal

pub returns-in-Less-clause-left : goal.returns-in-Less-clause-left
returns-in-Less-clause-left c = says_equal (same_refl (value c.args.x.now))

pub returns-in-Less-clause-right : goal.returns-in-Less-clause-right
returns-in-Less-clause-right c = says_later c.in-Less.ensures

pub returns-in-Equal-clause-left : goal.returns-in-Equal-clause-left
returns-in-Equal-clause-left c = says_equal (same_refl (value c.args.x.now))

pub returns-in-Equal-clause-right : goal.returns-in-Equal-clause-right
returns-in-Equal-clause-right c = says_equal (same_sym c.in-Equal.ensures)

pub returns-in-Greater-clause-left : goal.returns-in-Greater-clause-left
returns-in-Greater-clause-left c = says_later c.in-Greater.ensures

pub returns-in-Greater-clause-right : goal.returns-in-Greater-clause-right
returns-in-Greater-clause-right c = says_equal (same_refl (value c.args.y.now))
