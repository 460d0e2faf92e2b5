use Rattle.std.proofs.Common.{arith}
use Rattle.node_edges.proofs.queue.Queue.len.Goals as goal

pub returns-clause-small : goal.returns-clause-small
returns-clause-small g c = let small = c.args.self.now.items.small in omega (arith, c.len.ensures, small.0, small.1)
