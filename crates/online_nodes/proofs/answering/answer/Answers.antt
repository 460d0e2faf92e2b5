use Rattle.std.proofs.Common.{arith}
use Rattle.rational.proofs.Lists.{on_err_anyway}
use Rattle.online_nodes.proofs.AnsweringLemmas.{able_apart, carried}
use Rattle.online_nodes.proofs.answering.answer.Goals as goal

pub finish-requires-clause-edge : goal.finish-requires-clause-edge
finish-requires-clause-edge c =
    let g = carried c.args.kind c.args.edges.now c.body.new.edges c.args.out c.args.marks c.in_ok-told.told c.requires.own
    (able_apart c.args.kind c.args.edges.now c.args.out.edge c.args.marks c.requires.able) c.requires.nothing c.in_ok-told.ensures.told in
    omega (arith, g.edge, g.worked.count, c.requires.own)

pub returns-in_err-finish-clause-memory : goal.returns-in_err-finish-clause-memory
returns-in_err-finish-clause-memory c =
    let g = carried c.args.kind c.args.edges.now c.body.new.edges c.args.out c.args.marks c.in_ok-told.told c.requires.own
    (able_apart c.args.kind c.args.edges.now c.args.out.edge c.args.marks c.requires.able) c.requires.nothing c.in_ok-told.ensures.told in
    on_err_anyway c.from_residual-in_err-finish.result
    (omega (arith, g.owed, g.worked.spare, c.in_err-finish.ensures.waits, c.in_err-finish.ensures.memory))
