use Rattle.std.proofs.Common.{sym, ◌∙◌}
use Rattle.online_net.proofs.EdgeRows.{stretch_rows}
use Rattle.online_net.proofs.stretch.put_verdicts.Goals as goal

pub returns-then-joins : goal.returns-then-joins
returns-then-joins c =
    stretch_rows c.args.bound.now c.args.block.now c.args.node c.args.from c.args.to c.requires.order c.requires.within
    (sym c.joins.ensures ∙ c.if-joins.true) c.in_ok-put_stretch.ensures

pub returns : goal.returns
returns c = c.in_ok-put_each.ensures
