use Rattle.std.proofs.Common.{◌+◌, refl}
use Rattle.node_edges.specs.Queues.{seen_list}
use Rattle.node_edges.proofs.FarSteps.{after_seen_gone, whole_at}
use Rattle.node_edges.proofs.far.skip_seen.Goals as goal

pub returns-clause-gone : goal.returns-clause-gone
returns-clause-gone g c =
    (after_seen_gone c.args.pool.now.all c.pass.new.self.all c.args.edge c.seen_of-list.result 0 c.args.count c.args.far.now c.requires.far
    c.seen_of-list.ensures refl c.pass.ensures.passed c.requires.some (whole_at c.args.pool.now.all c.seen_of-list.result (seen_list c.args.edge)
    (c.args.far.now.gone + c.args.count) c.seen_of-list.ensures
    (c.is_whole.ensures.0 c.if-not-is_whole.false))).0

pub returns-clause-far : goal.returns-clause-far
returns-clause-far g c =
    (after_seen_gone c.args.pool.now.all c.pass.new.self.all c.args.edge c.seen_of-list.result 0 c.args.count c.args.far.now c.requires.far
    c.seen_of-list.ensures refl c.pass.ensures.passed c.requires.some (whole_at c.args.pool.now.all c.seen_of-list.result (seen_list c.args.edge)
    (c.args.far.now.gone + c.args.count) c.seen_of-list.ensures
    (c.is_whole.ensures.0 c.if-not-is_whole.false))).1
