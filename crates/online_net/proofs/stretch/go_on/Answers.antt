use Rattle.std.proofs.Common.{◌<◌, ◌-◌, [], sym, subst}
use Rattle.rational.specs.Places.{Before}
use Rattle.frac128.specs.Cuts.{place}
use Rattle.stl_syntax.specs.Trace.{Row}
use Rattle.atom_lines.specs.Growing.{IsReachAt}
use Rattle.atom_lines.specs.Legs.{jumped}
use Rattle.atom_lines.specs.Rows.{row_of}
use Rattle.atom_lines.proofs.WayLemmas.{sum_read}
use Rattle.online_net.specs.Stretches.{before_time, HasTurned}
use Rattle.online_net.proofs.AtomRuns.{bends_some, bent_before, bent_count, come_over, goes_some, gone_over}
use Rattle.online_net.proofs.stretch.go_on.Goals as goal

abbrev none : Row
none = record { time = 0; values = [] }

pub leg_from-leg-requires-clause-from : goal.leg_from-leg-requires-clause-from
leg_from-leg-requires-clause-from c =
    let b = c.args.bound.now in
    let block = c.args.block.now in
    let h = c.requires.come.2.sum in
    subst (IsReachAt b c.args.node block c.args.along.now.at) (sym (sum_read b c.args.node block c.args.along.now.at c.args.along.now.sum c.requires.atom h)) h

pub bend-requires-clause-some : goal.bend-requires-clause-some
bend-requires-clause-some c =
    bends_some c.args.bound.now c.args.block.now c.requires.come.0 c.args.to c.args.node c.args.along.now c.leg_from-leg.result c.requires.come.2
    c.leg_from-leg.ensures.leg

pub jump-requires-clause-edge : goal.jump-requires-clause-edge
jump-requires-clause-edge c =
    subst (λ n. c.args.node < n)
    (sym (bent_count c.args.node c.args.edges.now c.bend.new.edges c.args.along.now.run c.bend.new.run c.leg_from-leg.result.turn c.in_ok-bend.ensures))
    c.requires.edge

pub jump-requires-clause-some : goal.jump-requires-clause-some
jump-requires-clause-some c =
    let block = c.args.block.now in
    let w = c.leg_from-leg.result in
    let leg = c.leg_from-leg.ensures.leg in
    subst (λ n. Before (place c.bend.new.run.from) (before_time n)) (sym (c.time.ensures none))
    (bent_before c.args.node (row_of block (w.row - 1)).time (row_of block w.row).time leg.rises c.args.edges.now c.bend.new.edges c.args.along.now.run
    c.bend.new.run w.turn (goes_some c.args.bound.now block c.requires.come.0 c.args.to c.args.node c.args.along.now w c.requires.come.2 leg) leg.inside
    c.in_ok-bend.ensures)

pub returns-clause-on : goal.returns-clause-on
returns-clause-on c = c.leg_from-leg.ensures.leg.later

pub returns-clause-come : goal.returns-clause-come
returns-clause-come c = λ from e come.
    let b = c.args.bound.now in
    let block = c.args.block.now in
    let i = c.args.node in
    let w = c.leg_from-leg.result in
    let leg = c.leg_from-leg.ensures.leg in
    let run = c.args.along.now.run in
    let mid = c.bend.new.run in
    let end = c.jump.new.run in
    come_over b block from c.args.to i c.args.along.now end w _ come leg c.leg_from-leg.ensures.last
    (subst (IsReachAt b i block w.row) (sym (sum_read b i block w.row w.sum c.requires.atom leg.sum)) leg.sum)
    (gone_over i (row_of block (w.row - 1)).time (row_of block w.row).time c.args.edges.now c.bend.new.edges c.jump.new.edges run mid end w.turn w.jumps
    c.in_ok-bend.ensures
    (subst (λ n. HasTurned c.bend.new.edges c.jump.new.edges i mid (before_time n) (jumped w.jumps mid.holds) end) (c.time.ensures none)
    c.in_ok-jump.ensures))
