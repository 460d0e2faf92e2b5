use Rattle.std.proofs.Common.{None, false, true, sym, ◌∙◌}
use Rattle.frac128.proofs.Wholes.{same_at_tick}
use Rattle.online_net.specs.Atoms.{after_row, before_row}
use Rattle.online_net.proofs.AtomVerdicts.{IsNew, new_is, first_begun}
use Rattle.online_net.proofs.atom.put_first.Goals as goal
use Rattle.online_net.proofs.atom.put_first.Goals.{After-new}

new_out : (c : After-new) → IsNew c.new.result c.args.node (before_row c.args.row.now) (after_row c.args.row.now)
new_out c =
    new_is c.new.result c.args.node c.before_tick-from.result c.after_tick-to.result (before_row c.args.row.now) (after_row c.args.row.now)
    c.new.ensures
    (same_at_tick c.before_tick-from.result c.time.result c.args.row.now.time false c.time.ensures c.before_tick-from.ensures)
    (same_at_tick c.after_tick-to.result c.time-2.result c.args.row.now.time true c.time-2.ensures c.after_tick-to.ensures)

pub put_last-requires-clause-inside : goal.put_last-requires-clause-inside
put_last-requires-clause-inside c =
    (first_begun c.args.bound.now c.args.node c.args.row.now c.args.edges.now c.new.result
    (new_out (goal.at.put_last-requires-clause-inside c).After-new)).inside

pub returns : goal.returns
returns c =
    c.put_last.ensures c.args.bound.now None c.args.edges.now
    (first_begun c.args.bound.now c.args.node c.args.row.now c.args.edges.now c.new.result (new_out (goal.at.returns c).After-new))
    (λ a tr t for has same. c.truth_point.ensures a tr t for has same ∙ sym c.holds-holds.ensures) tt c.requires.edge
