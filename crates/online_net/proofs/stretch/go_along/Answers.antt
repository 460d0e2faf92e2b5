use Rattle.std.proofs.Common.{◌<◌, sym, subst}
use Rattle.rational.proofs.PlaceLemmas.{before_trans}
use Rattle.frac128.specs.Cuts.{place}
use Rattle.online_net.specs.Stretches.{before_time}
use Rattle.online_net.proofs.AtomRuns.{passed_before, passed_count, gone}
use Rattle.online_net.proofs.stretch.go_along.Goals as goal

pub pass-requires-clause-inside : goal.pass-requires-clause-inside
pass-requires-clause-inside c = (c.args.second, c.requires.inside)

pub turn_at_row-requires-clause-edge : goal.turn_at_row-requires-clause-edge
turn_at_row-requires-clause-edge c =
    subst (λ n. c.args.node < n)
    (sym (passed_count c.args.node c.args.first c.args.edges.now c.pass.new.edges c.args.run.now c.pass.new.run c.args.passage.now c.in_ok-pass.ensures))
    c.requires.edge

pub turn_at_row-requires-clause-order : goal.turn_at_row-requires-clause-order
turn_at_row-requires-clause-order c = λ d h.
    before_trans (place c.pass.new.run.from) (before_time c.args.second) d
    (passed_before c.args.node c.args.first c.args.second c.requires.later c.args.edges.now c.pass.new.edges c.args.run.now c.pass.new.run
    c.args.passage.now c.requires.inside c.in_ok-pass.ensures) h

pub turn_at_row-requires-clause-some : goal.turn_at_row-requires-clause-some
turn_at_row-requires-clause-some c = λ differ.
    passed_before c.args.node c.args.first c.args.second c.requires.later c.args.edges.now c.pass.new.edges c.args.run.now c.pass.new.run
    c.args.passage.now c.requires.inside c.in_ok-pass.ensures

pub returns : goal.returns
returns c = gone c.args.node c.args.first c.args.second c.requires.later c.args.edges.now c.pass.new.edges c.turn_at_row.new.edges c.args.run.now
    c.pass.new.run c.turn_at_row.new.run c.args.passage.now c.args.last c.in_ok-pass.ensures c.in_ok-turn_at_row.ensures
