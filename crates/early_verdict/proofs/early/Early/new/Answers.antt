use Rattle.std.proofs.Common.{[], None, false, length, sym, ap, subst, arith}
use Rattle.stl_syntax.specs.Trace.{Trace}
use Rattle.early_verdict.specs.Standing.{own_list}
use Rattle.early_verdict.specs.Deciding.{Stands, last_of}
use Rattle.early_verdict.proofs.NextRow.{fresh}
use Rattle.early_verdict.proofs.early.Early.new.Goals as goal
use Rattle.early_verdict.proofs.early.Early.new.Goals.{After-new-3}

-- the new verdict stands for no rows
stands : (c : After-new-3) → Stands (record {
  nodes = c.args.formula.nodes;
  header = c.new.result.header;
  bound = c.args.bound;
  live = own_list c.args.formula.nodes c.new-2.result.items c.new-3.result.items;
  shown = c.new-3.result.items;
  begin = 0;
  last = last_of c.new.result.rows;
  decided = None;
  ended = false;
  stopped = false;
}) [] false
stands c = subst (λ (t : Trace). Stands (record {
  nodes = c.args.formula.nodes;
  header = t.header;
  bound = c.args.bound;
  live = own_list c.args.formula.nodes c.new-2.result.items c.new-3.result.items;
  shown = c.new-3.result.items;
  begin = 0;
  last = last_of t.rows;
  decided = None;
  ended = false;
  stopped = false;
}) [] false) (sym c.new.ensures)
    (fresh c.args.bound c.args.formula c.args.header (own_list c.args.formula.nodes c.new-2.result.items c.new-3.result.items)
    c.new-3.result.items c.len.ensures.well_formed.nodes
    c.len.ensures.well_formed.some c.requires)

pub invariant_of-result : goal.invariant_of-result
invariant_of-result c = (
  λ running. ([], stands (goal.at.invariant_of-result c).After-new-3),
  λ running. let e = ap (λ (t : Trace). length t.rows) c.new.ensures in omega (arith, e),
)

pub returns-clause-stands : goal.returns-clause-stands
returns-clause-stands c = stands (goal.at.returns-clause-stands c).After-new-3
