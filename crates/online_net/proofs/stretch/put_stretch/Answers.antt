use Rattle.std.proofs.Common.{ap, arith}
use Rattle.rational.proofs.Order.{same_refl}
use Rattle.stl_syntax.specs.Trace.{row_time}
use Rattle.atom_lines.specs.Rows.{row_of}
use Rattle.online_net.specs.Stretches.{CanGoAlong}
use Rattle.online_net.proofs.AtomRuns.{stays_even}
use Rattle.online_net.proofs.stretch.put_stretch.Goals as goal
use Rattle.online_net.proofs.stretch.put_stretch.Goals.{After-way_from-way}

-- the first way behind the row, and the truth there
can : (c : After-way_from-way)
    → CanGoAlong c.args.bound.now c.args.block.now c.args.from c.args.to c.args.node c.standing-sum.result.1 c.way_from-way.result
can c = record {
  leaf = c.requires.atom;
  way = c.way_from-way.ensures.way;
  last = c.way_from-way.ensures.last;
  holds = λ a tr for has.
      c.standing-sum.ensures.holds a tr (row_time (row_of c.args.block.now c.args.from)) for has
      (same_refl (row_time (row_of c.args.block.now c.args.from)));
}

pub put_even-requires-clause-rises : goal.put_even-requires-clause-rises
put_even-requires-clause-rises c =
    let way = c.way_from-way.ensures.way in
    let even = c.is_even.ensures c.if-is_even.true in
    let o = way.order in
    let r = way.rises in
    let e = ap (λ n. (row_of c.args.block.now n).time) even.0 in
    omega (arith, o, r, e)

pub returns-then-is_even : goal.returns-then-is_even
returns-then-is_even c =
    let even = c.is_even.ensures c.if-is_even.true in
    c.put_even.ensures c.args.bound.now
    (stays_even c.args.bound.now c.args.block.now c.args.node c.args.from c.args.to c.way_from-way.result c.standing-sum.result.1
    (can (goal.at.returns-then-is_even c).After-way_from-way) even.0 even.1 even.2)

pub put_ways-requires-clause-can : goal.put_ways-requires-clause-can
put_ways-requires-clause-can c = can (goal.at.put_ways-requires-clause-can c).After-way_from-way

pub returns : goal.returns
returns c = c.put_ways.ensures
