use Rattle.std.proofs.Common.{subst, sym}
use Rattle.online_robust.specs.Moving.{HasMoved}
use Rattle.online_robust.proofs.StationCalls.{end_atom, end_const}
use Rattle.online_robust.proofs.station.Station.take_end.Goals as goal

pub returns-in-Const-clause-moved : goal.returns-in-Const-clause-moved
returns-in-Const-clause-moved c = λ m g.
    subst (λ w. HasMoved m w c.args.edges.now c.args.edges.now) (sym c.in-Const.is)
    (end_const m c.args.node c.args.self.now c.args.edges.now c.args.now g c.in-Const.field-0 c.in-Const.is)

pub returns-in-Atom-clause-moved : goal.returns-in-Atom-clause-moved
returns-in-Atom-clause-moved c = λ m g.
    subst (λ w. HasMoved m w c.args.edges.now c.args.edges.now) (sym c.in-Atom.is)
    (end_atom m c.args.node c.args.self.now c.args.edges.now c.args.now g c.in-Atom.is)
