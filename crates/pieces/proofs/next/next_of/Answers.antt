use Rattle.frac128.specs.Cuts.{place}
use Rattle.pieces.proofs.Ends.{at_most_of_before, at_most_of_same}
use Rattle.pieces.proofs.next.next_of.Goals as goal

pub returns-in-Less-clause-before_right : goal.returns-in-Less-clause-before_right
returns-in-Less-clause-before_right c = at_most_of_before (place c.args.x.now) (place c.args.y.now) c.in-Less.ensures

pub returns-in-Equal-clause-before_right : goal.returns-in-Equal-clause-before_right
returns-in-Equal-clause-before_right c = at_most_of_same (place c.args.x.now) (place c.args.y.now) c.in-Equal.ensures

pub returns-in-Greater-clause-before_left : goal.returns-in-Greater-clause-before_left
returns-in-Greater-clause-before_left c = at_most_of_before (place c.args.y.now) (place c.args.x.now) c.in-Greater.ensures
