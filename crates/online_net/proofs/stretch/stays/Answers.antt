use Rattle.std.proofs.Common.{sym, ◌∙◌}
use Rattle.rational.proofs.Order.{same_refl}
use Rattle.stl_syntax.specs.Trace.{row_time}
use Rattle.atom_lines.specs.Rows.{row_of}
use Rattle.online_net.specs.Stretches.{CanGoAlong}
use Rattle.online_net.proofs.AtomRuns.{stays_from}
use Rattle.online_net.proofs.stretch.stays.Goals as goal
use Rattle.online_net.proofs.stretch.stays.Goals.{After-way_from-way}

-- the first way behind the row, and the truth there
can : (c : After-way_from-way)
    → CanGoAlong c.args.bound.now c.args.block.now c.args.at c.args.to c.args.node c.standing-sum.result.1 c.way_from-way.result
can c = record {
  leaf = c.requires.atom;
  way = c.way_from-way.ensures.way;
  last = c.way_from-way.ensures.last;
  holds = λ a tr for has.
      c.standing-sum.ensures.holds a tr (row_time (row_of c.args.block.now c.args.at)) for has
      (same_refl (row_time (row_of c.args.block.now c.args.at)));
}

pub returns-then-at-to : goal.returns-then-at-to
returns-then-at-to c = λ yes a tr for has t u at_t at_u.
    c.stays_over.ensures yes a tr for has t at_t.above at_t.below ∙ sym (c.stays_over.ensures yes a tr for has u at_u.above at_u.below)

pub returns : goal.returns
returns c = λ yes.
    let even = c.is_even.ensures yes in
    stays_from c.args.bound.now c.args.block.now c.args.node c.args.at c.args.to c.way_from-way.result c.standing-sum.result.1
    (can (goal.at.returns c).After-way_from-way) even.0 even.1 even.2
