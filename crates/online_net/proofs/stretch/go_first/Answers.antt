use Rattle.std.proofs.Common.{◌-◌, [], pos, sym, subst, arith}
use Rattle.rational.specs.Rational.{whole}
use Rattle.rational.specs.Places.{Before}
use Rattle.rational.proofs.PlaceLemmas.{before_trans}
use Rattle.frac128.specs.Cuts.{place}
use Rattle.stl_syntax.specs.Trace.{Row}
use Rattle.atom_lines.specs.Growing.{IsReachAt}
use Rattle.atom_lines.specs.Passages.{TurnsInside}
use Rattle.atom_lines.specs.Rows.{row_of}
use Rattle.atom_lines.proofs.WayLemmas.{sum_read}
use Rattle.online_net.specs.Stretches.{after_time, HasGone}
use Rattle.online_net.proofs.AtomRuns.{come_on, way_some}
use Rattle.online_net.proofs.stretch.go_first.Goals as goal

abbrev none : Row
none = record { time = 0; values = [] }

pub way_from-way-requires-clause-from : goal.way_from-way-requires-clause-from
way_from-way-requires-clause-from c =
    let b = c.args.bound.now in
    let block = c.args.block.now in
    let h = c.requires.come.2.sum in
    subst (IsReachAt b c.args.node block c.args.along.now.at) (sym (sum_read b c.args.node block c.args.along.now.at c.args.along.now.sum c.requires.atom h)) h

pub go_along-requires-clause-later : goal.go_along-requires-clause-later
go_along-requires-clause-later c =
    let r = c.way_from-way.ensures.way.rises in
    let e = c.time-first.ensures none in
    let f = c.time-second.ensures none in
    omega (arith, r, e, f)

pub go_along-requires-clause-inside : goal.go_along-requires-clause-inside
go_along-requires-clause-inside c =
    let w = c.way_from-way.result in
    subst (λ n. TurnsInside (whole (pos n)) (whole (pos c.time-second.result)) w.passage) (sym (c.time-first.ensures none))
    (subst (λ n. TurnsInside (whole (pos (row_of c.args.block.now (w.row - 1)).time)) (whole (pos n)) w.passage) (sym (c.time-second.ensures none))
    c.way_from-way.ensures.way.inside)

pub go_along-requires-clause-order : goal.go_along-requires-clause-order
go_along-requires-clause-order c = λ d h.
    let w = c.way_from-way.result in
    before_trans (place c.args.along.now.run.from) (after_time (row_of c.args.block.now (w.row - 1)).time) d
    (way_some c.args.bound.now c.args.block.now c.requires.come.0 c.args.to c.args.node c.args.along.now w c.requires.come.2 c.way_from-way.ensures.way)
    (subst (λ n. Before (after_time n) d) (c.time-first.ensures none) h)

pub go_along-requires-clause-some : goal.go_along-requires-clause-some
go_along-requires-clause-some c = λ differ.
    subst (λ n. Before (place c.args.along.now.run.from) (after_time n)) (sym (c.time-first.ensures none))
    (way_some c.args.bound.now c.args.block.now c.requires.come.0 c.args.to c.args.node c.args.along.now c.way_from-way.result c.requires.come.2
    c.way_from-way.ensures.way)

pub returns-clause-on : goal.returns-clause-on
returns-clause-on c = c.way_from-way.ensures.way.later

pub returns-clause-come : goal.returns-clause-come
returns-clause-come c = λ from e come.
    let b = c.args.bound.now in
    let block = c.args.block.now in
    let w = c.way_from-way.result in
    let way = c.way_from-way.ensures.way in
    come_on b block from c.args.to c.args.node c.args.along.now c.go_along.new.run w _ come way c.way_from-way.ensures.last
    (subst (IsReachAt b c.args.node block w.row) (sym (sum_read b c.args.node block w.row w.sum c.requires.atom way.sum)) way.sum)
    (subst (λ n. HasGone c.args.edges.now c.go_along.new.edges c.args.node c.args.along.now.run n (row_of block w.row).time w.passage w.last c.go_along.new.run)
    (c.time-first.ensures none)
    (subst (λ n. HasGone c.args.edges.now c.go_along.new.edges c.args.node c.args.along.now.run c.time-first.result n w.passage w.last c.go_along.new.run)
    (c.time-second.ensures none) c.in_ok-go_along.ensures))
