use Rattle.std.proofs.Common.{◌-◌, ◌<◌, [], false, pos, refl, sym, subst, arith}
use Rattle.rational.specs.Rational.{whole}
use Rattle.rational.specs.Places.{Same}
use Rattle.rational.proofs.PlaceLemmas.{before_same, same_before, same_places}
use Rattle.frac128.specs.Cuts.{place}
use Rattle.stl_syntax.specs.Trace.{Row}
use Rattle.atom_lines.specs.Passages.{TurnsInside}
use Rattle.atom_lines.specs.Rows.{row_of}
use Rattle.online_net.specs.Stretches.{after_time, HasGone, HasPutTwo}
use Rattle.online_net.proofs.AtomRuns.{come_first, last_gap, more_count, put_run_to, stretch_put, two_put}
use Rattle.online_net.proofs.stretch.put_gap.Goals as goal

abbrev none : Row
none = record { time = 0; values = [] }

pub go_along-requires-clause-later : goal.go_along-requires-clause-later
go_along-requires-clause-later c =
    let r = c.requires.way.2.rises in
    let e = c.time-first.ensures none in
    let f = c.time-second.ensures none in
    omega (arith, r, e, f)

pub go_along-requires-clause-inside : goal.go_along-requires-clause-inside
go_along-requires-clause-inside c =
    let w = c.args.way.now in
    subst (λ n. TurnsInside (whole (pos n)) (whole (pos c.time-second.result)) w.passage) (sym (c.time-first.ensures none))
    (subst (λ n. TurnsInside (whole (pos (row_of c.args.block.now (w.row - 1)).time)) (whole (pos n)) w.passage) (sym (c.time-second.ensures none))
    c.requires.way.2.inside)

pub go_along-requires-clause-order : goal.go_along-requires-clause-order
go_along-requires-clause-order c = λ d h. same_before (place c.tick_cut.result) (after_time c.time-first.result) d c.tick_cut.ensures h

pub go_along-requires-clause-some : goal.go_along-requires-clause-some
go_along-requires-clause-some c = λ differ. absurd (differ c.truth_at_first.ensures)

pub put_run-requires-clause-edge : goal.put_run-requires-clause-edge
put_run-requires-clause-edge c = subst (λ n. c.args.node < n) (sym (more_count c.in_ok-go_along.ensures.got)) c.requires.edge

pub put_run-requires-clause-some : goal.put_run-requires-clause-some
put_run-requires-clause-some c =
    before_same (place c.go_along.new.run.from) (after_time c.time-second.result) (place c.tick_cut-end.result) c.in_ok-go_along.ensures.some
    (same_places c.tick_cut-end.ensures)

pub returns : goal.returns
returns c = λ b r way.
    let block = c.args.block.now in
    let w = c.args.way.now in
    let i = c.args.node in
    let own = last_gap b block (w.row - 1) w.row i r w way in
    let begin : Same (place c.tick_cut.result) (after_time (row_of block (w.row - 1)).time) =
    subst (λ n. Same (place c.tick_cut.result) (after_time n)) (c.time-first.ensures none) c.tick_cut.ensures in
    let end : Same (place c.tick_cut-end.result) (after_time (row_of block w.row).time) =
    subst (λ n. Same (place c.tick_cut-end.result) (after_time n)) (c.time-second.ensures none) c.tick_cut-end.ensures in
    stretch_put b block (w.row - 1) w.row i (record { at = w.row; sum = w.sum; run = c.go_along.new.run })
    (come_first b block (w.row - 1) w.row i w w.sum own (omega arith) (λ l. absurd (omega (arith, l))) begin own.sum
    (subst (λ n. HasGone c.args.edges.now c.go_along.new.edges i
    (record { from = c.tick_cut.result; holds = c.truth_at_first.result; first = false }) n (row_of block w.row).time w.passage w.last c.go_along.new.run)
    (c.time-first.ensures none)
    (subst (λ n. HasGone c.args.edges.now c.go_along.new.edges i
    (record { from = c.tick_cut.result; holds = c.truth_at_first.result; first = false }) c.time-first.result n w.passage w.last c.go_along.new.run)
    (c.time-second.ensures none) c.in_ok-go_along.ensures))) refl (put_run_to end c.in_ok-put_run.ensures)

pub put_turned-requires-clause-later : goal.put_turned-requires-clause-later
put_turned-requires-clause-later c =
    let r = c.requires.way.2.rises in
    let e = c.time-first.ensures none in
    let f = c.time-second.ensures none in
    omega (arith, r, e, f)

pub returns-in-Some : goal.returns-in-Some
returns-in-Some c = λ b r way.
    let block = c.args.block.now in
    let w = c.args.way.now in
    let i = c.args.node in
    two_put b block i r w c.in-Some.holds way c.in-Some.ensures.0 c.in-Some.ensures.1
    (subst (λ n. HasPutTwo c.args.edges.now c.put_turned.new.edges i n (row_of block w.row).time c.in-Some.holds) (c.time-first.ensures none)
    (subst (λ n. HasPutTwo c.args.edges.now c.put_turned.new.edges i c.time-first.result n c.in-Some.holds) (c.time-second.ensures none)
    c.in_ok-put_turned.ensures))
