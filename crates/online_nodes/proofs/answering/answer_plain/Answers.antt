use Rattle.std.proofs.Common.{arith, refl}
use Rattle.rational.proofs.Lists.{on_err_anyway}
use Rattle.online_nodes.proofs.AnsweringLemmas.{able_apart, carried}
use Rattle.online_nodes.proofs.answering.answer_plain.Goals as goal

pub finish-requires-clause-edge : goal.finish-requires-clause-edge
finish-requires-clause-edge c =
    let (marks, able) = c.requires.able in
    let g = carried c.args.kind.now c.args.edges.now c.plain_body.new.edges c.args.out marks (record { out = c.in_ok-end.end; marks = marks }) c.requires.own
    (able_apart c.args.kind.now c.args.edges.now c.args.out.edge marks able) c.requires.nothing (c.in_ok-end.ensures.told marks) in
    omega (arith, g.edge, g.worked.count, c.requires.own)

pub finish-requires-clause-sound : goal.finish-requires-clause-sound
finish-requires-clause-sound c =
    let (marks, able) = c.requires.able in
    let g = carried c.args.kind.now c.args.edges.now c.plain_body.new.edges c.args.out marks (record { out = c.in_ok-end.end; marks = marks }) c.requires.own
    (able_apart c.args.kind.now c.args.edges.now c.args.out.edge marks able) c.requires.nothing (c.in_ok-end.ensures.told marks) in
    g.sound

pub returns-in_err-finish-clause-memory : goal.returns-in_err-finish-clause-memory
returns-in_err-finish-clause-memory c =
    let (marks, able) = c.requires.able in
    let g = carried c.args.kind.now c.args.edges.now c.plain_body.new.edges c.args.out marks (record { out = c.in_ok-end.end; marks = marks }) c.requires.own
    (able_apart c.args.kind.now c.args.edges.now c.args.out.edge marks able) c.requires.nothing (c.in_ok-end.ensures.told marks) in
    on_err_anyway c.from_residual-in_err-finish.result
    (omega (arith, g.owed, g.worked.spare, c.in_err-finish.ensures.waits, c.in_err-finish.ensures.memory))

pub returns-clause-answered : goal.returns-clause-answered
returns-clause-answered c = λ marks. record {
  mid = c.plain_body.new.edges;
  told = record { out = c.in_ok-end.end; marks = marks };
  body = c.in_ok-end.ensures.told marks;
  finished = c.in_ok-finish.ensures.finished;
  is = refl;
}
