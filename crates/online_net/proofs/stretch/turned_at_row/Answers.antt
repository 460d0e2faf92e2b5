use Rattle.std.proofs.Common.{sym}
use Rattle.online_net.proofs.AtomRuns.{turned_is}
use Rattle.online_net.proofs.stretch.turned_at_row.Goals as goal

pub returns : goal.returns
returns c = (c.in-Steady.is, sym (turned_is _ _ c.if-holds-way.false))
