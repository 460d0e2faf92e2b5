use Rattle.online_net.proofs.AtomRuns.{turned_over}
use Rattle.online_net.proofs.stretch.turn_over.Goals as goal

pub returns : goal.returns
returns c = λ d same. turned_over c.args.node c.args.edges.now c.args.run.now c.args.at d same c.in_ok-put_run.ensures
