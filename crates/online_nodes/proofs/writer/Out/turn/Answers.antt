use Rattle.std.proofs.Common.{arith}
use Rattle.online_nodes.proofs.GotLemmas.{got-length}
use Rattle.online_nodes.proofs.SaidLemmas.{said_both}
use Rattle.online_nodes.proofs.writer.Out.turn.Goals as goal

pub upto-requires-2-clause-edge : goal.upto-requires-2-clause-edge
upto-requires-2-clause-edge c =
    let one = c.in_ok-first.ensures.said in omega (arith, one.edge, got-length one.got, c.requires.edge)

pub returns-clause-said : goal.returns-clause-said
returns-clause-said c =
    said_both c.requires.edge c.in_ok-first.ensures.said c.in_ok-first.ensures.reaches c.in_ok-second.ensures.said c.in_ok-second.ensures.reaches
