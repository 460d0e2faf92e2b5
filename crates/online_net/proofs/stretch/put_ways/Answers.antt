use Rattle.std.proofs.Common.{arith}
use Rattle.online_net.proofs.stretch.put_ways.Goals as goal

pub begin_along-requires-clause-within : goal.begin_along-requires-clause-within
begin_along-requires-clause-within c = omega (arith, c.requires.order, c.requires.within)

pub begin_along-requires-clause-way : goal.begin_along-requires-clause-way
begin_along-requires-clause-way c = (c.args.bound.now, c.requires.can.way)

pub put_legs-requires-clause-come : goal.put_legs-requires-clause-come
put_legs-requires-clause-come c = (c.args.from, c.args.edges.now, c.in_ok-along.ensures c.args.bound.now c.args.to c.requires.can)

pub returns-then-along-to : goal.returns-then-along-to
returns-then-along-to c = c.put_legs.ensures c.args.from c.args.edges.now (c.in_ok-along.ensures c.args.bound.now c.args.to c.requires.can)

pub put_last-requires-clause-come : goal.put_last-requires-clause-come
put_last-requires-clause-come c = (c.args.bound.now, c.args.from, c.args.edges.now, c.in_ok-along.ensures c.args.bound.now c.args.to c.requires.can)

pub returns : goal.returns
returns c = c.put_last.ensures c.args.bound.now c.args.from c.args.edges.now (c.in_ok-along.ensures c.args.bound.now c.args.to c.requires.can)
