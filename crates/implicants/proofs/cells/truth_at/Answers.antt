use Rattle.std.proofs.Common.{sym}
use Rattle.frac128.specs.Value.{value}
use Rattle.implicants.proofs.NodeCells.{worth_here, worth_after, same_told, other_told}
use Rattle.implicants.proofs.cells.truth_at.Goals as goal

pub returns-then-is_eq : goal.returns-then-is_eq
returns-then-is_eq c = (
  c.knot-knot.result.point,
  sym c.holds.ensures,
  worth_here c.args.signal.now c.args.place (value c.args.t.now) c.knot-knot.result c.knot-knot.ensures
      (same_told c.cmp.result c.is_eq.result c.cmp.ensures c.is_eq.ensures c.if-is_eq.true),
)

pub returns : goal.returns
returns c = (
  c.knot-knot.result.after,
  sym c.holds-2.ensures,
  worth_after c.args.signal.now c.args.place (value c.args.t.now) c.knot-knot.result c.knot-knot.ensures
      (other_told c.cmp.result c.is_eq.result c.cmp.ensures c.is_eq.ensures c.if-is_eq.false) c.requires.place c.requires.within,
)
