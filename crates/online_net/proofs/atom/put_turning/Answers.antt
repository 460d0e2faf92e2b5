use Rattle.std.proofs.Common.{Some, ◌<◌, length, sym, subst}
use Rattle.online_nodes.proofs.GotLemmas.{got-length}
use Rattle.online_net.proofs.atom.put_turning.Goals as goal

pub put_last-requires-clause-edge : goal.put_last-requires-clause-edge
put_last-requires-clause-edge c =
    let begun = c.in_ok-begun.ensures c.requires.on.0 c.requires.on.1 in
    subst (λ i. i < length c.say_gap.new.edges.edges) (sym begun.edge) (subst (λ n. c.args.node < n) (sym (got-length begun.got)) c.requires.edge)

pub put_last-requires-clause-own : goal.put_last-requires-clause-own
put_last-requires-clause-own c = (c.in_ok-begun.ensures c.requires.on.0 c.requires.on.1).edge

pub put_last-requires-clause-sound : goal.put_last-requires-clause-sound
put_last-requires-clause-sound c = (c.in_ok-begun.ensures c.requires.on.0 c.requires.on.1).sound

pub put_last-requires-clause-inside : goal.put_last-requires-clause-inside
put_last-requires-clause-inside c = (c.in_ok-begun.ensures c.requires.on.0 c.requires.on.1).inside

pub returns : goal.returns
returns c = λ b on at.
    c.put_last.ensures b (Some c.args.first.now) c.args.edges.now (c.in_ok-begun.ensures b on) at c.requires.later c.requires.edge
