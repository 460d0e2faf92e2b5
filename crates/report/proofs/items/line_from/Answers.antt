use Rattle.std.proofs.Common.{arith}
use Rattle.report.proofs.JoinedLines.{joins_first, joins_longer, joins_end, joins_all}
use Rattle.report.proofs.items.line_from.Goals as goal

pub loop-k-init : goal.loop-k-init
loop-k-init c = joins_first c.args.items.now c.args.i c.item-line.result c.item-line.ensures

pub loop-k-preserved : goal.loop-k-preserved
loop-k-preserved c =
    let h = c.in-Some.ensures in
    joins_longer c.args.items.now c.args.i c.loop-k.k c.loop-k.line c.item.result c.in-Some.longer c.loop-k.invariant c.item.ensures h.0 h.1

pub returns-in-None-clause-line : goal.returns-in-None-clause-line
returns-in-None-clause-line c =
    joins_end c.args.items.now c.args.i c.loop-k.k c.loop-k.line c.item.result c.loop-k.invariant c.item.ensures c.in-None.ensures

pub returns-clause-line : goal.returns-clause-line
returns-clause-line c =
    joins_all c.args.items.now c.args.i c.loop-k.k c.len-count.result c.loop-k.line c.loop-k.invariant
    (omega (arith, c.len-count.ensures, c.loop-k-test.false)) c.len-count.ensures
