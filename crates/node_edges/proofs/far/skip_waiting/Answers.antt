use Rattle.std.proofs.Common.{◌+◌, refl, arith}
use Rattle.node_edges.specs.Queues.{waiting_list}
use Rattle.node_edges.proofs.FarSteps.{after_waiting_gone, whole_at}
use Rattle.node_edges.proofs.far.skip_waiting.Goals as goal

pub returns-clause-gone : goal.returns-clause-gone
returns-clause-gone g c =
    (after_waiting_gone c.args.pool.now.all c.pass.new.self.all c.args.edge c.waiting_of-list.result 0 c.args.count c.args.far.now c.requires.far
    c.requires.none c.waiting_of-list.ensures refl c.pass.ensures.passed c.requires.some (omega (arith, c.if-far.false))
    (whole_at c.args.pool.now.all c.waiting_of-list.result (waiting_list c.args.edge) (c.args.far.now.gone + c.args.count) c.waiting_of-list.ensures
    (c.is_whole.ensures.0 c.if-not-is_whole.false))).0

pub returns-clause-far : goal.returns-clause-far
returns-clause-far g c =
    (after_waiting_gone c.args.pool.now.all c.pass.new.self.all c.args.edge c.waiting_of-list.result 0 c.args.count c.args.far.now c.requires.far
    c.requires.none c.waiting_of-list.ensures refl c.pass.ensures.passed c.requires.some (omega (arith, c.if-far.false))
    (whole_at c.args.pool.now.all c.waiting_of-list.result (waiting_list c.args.edge) (c.args.far.now.gone + c.args.count) c.waiting_of-list.ensures
    (c.is_whole.ensures.0 c.if-not-is_whole.false))).1
