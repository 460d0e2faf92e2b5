use Rattle.implicants.proofs.NearBest.{near_closed}
use Rattle.implicants.proofs.nearby.closed.Goals as goal

pub returns : goal.returns
returns c runs far = near_closed runs c.args.view c.args.chain c.go_up_to.new.chain c.end_of.result c.best_value.result c.end_of.ensures
    c.best_value.ensures c.requires.order c.requires.late c.len.ensures.normal c.in_ok-go_up_to.ensures far
