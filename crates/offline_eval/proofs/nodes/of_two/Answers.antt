use Rattle.std.proofs.Common.{sym, subst}
use Rattle.std.specs.Prelude.{IfOk}
use Rattle.offline_eval.specs.Forms.{of_pieces}
use Rattle.offline_eval.specs.Making.{TellsTwo, make_two}
use Rattle.offline_eval.proofs.NodeLemmas.{may_meet}
use Rattle.offline_eval.proofs.nodes.of_two.Goals as goal

pub both-requires : goal.both-requires
both-requires g c = may_meet (of_pieces g.P.Shape) c.args.x.now c.args.y.now c.requires.fit

pub either-requires : goal.either-requires
either-requires g c = may_meet (of_pieces g.P.Shape) c.args.x.now c.args.y.now c.requires.fit

pub implied-requires : goal.implied-requires
implied-requires g c = may_meet (of_pieces g.P.Shape) c.args.x.now c.args.y.now c.requires.fit

pub returns-in-Until-clause-told : goal.returns-in-Until-clause-told
returns-in-Until-clause-told g c =
    subst (λ n. IfOk c.bounded_until.result (TellsTwo (of_pieces g.P.Shape) (make_two n) c.args.x.now c.args.y.now)) (sym c.in-Until.is)
    c.bounded_until.ensures.told

pub returns-in-Since-clause-told : goal.returns-in-Since-clause-told
returns-in-Since-clause-told g c =
    subst (λ n. IfOk c.bounded_since.result (TellsTwo (of_pieces g.P.Shape) (make_two n) c.args.x.now c.args.y.now)) (sym c.in-Since.is)
    c.bounded_since.ensures.told
