use Rattle.std.proofs.Common.{◌∙◌, ◌-◌, inl, inr, [], true, pos, sym, subst, arith}
use Rattle.std.proofs.lemmas.Bool.{cases_lt}
use Rattle.rational.specs.Rational.{whole}
use Rattle.rational.specs.Places.{Before, Same}
use Rattle.rational.proofs.PlaceLemmas.{same_before}
use Rattle.frac128.specs.Cuts.{place}
use Rattle.stl_syntax.specs.Trace.{Row}
use Rattle.atom_lines.specs.Growing.{IsReachAt}
use Rattle.atom_lines.specs.Passages.{TurnsInside}
use Rattle.atom_lines.specs.Rows.{row_of}
use Rattle.atom_lines.proofs.WayLemmas.{sum_read}
use Rattle.online_net.specs.Stretches.{after_time, HasGone}
use Rattle.online_net.proofs.AtomRuns.{come_first, first_order, later_order}
use Rattle.online_net.proofs.stretch.begin_along.Goals as goal
use Rattle.online_net.proofs.stretch.begin_along.Goals.{After-truth_behind}

abbrev none : Row
none = record { time = 0; values = [] }

-- the run begins just after the row
begins : (c : After-truth_behind) → Same (place c.tick_cut.result) (after_time (row_of c.args.block.now c.args.from).time)
begins c = subst (λ n. Same (place c.tick_cut.result) (after_time n)) (c.time-begin.ensures none) c.tick_cut.ensures

pub go_along-requires-clause-later : goal.go_along-requires-clause-later
go_along-requires-clause-later c =
    let r = c.requires.way.1.rises in
    let e = c.time-first.ensures none in
    let f = c.time-second.ensures none in
    omega (arith, r, e, f)

pub go_along-requires-clause-inside : goal.go_along-requires-clause-inside
go_along-requires-clause-inside c =
    let w = c.args.way.now in
    subst (λ n. TurnsInside (whole (pos n)) (whole (pos c.time-second.result)) w.passage) (sym (c.time-first.ensures none))
    (subst (λ n. TurnsInside (whole (pos (row_of c.args.block.now (w.row - 1)).time)) (whole (pos n)) w.passage) (sym (c.time-second.ensures none))
    c.requires.way.1.inside)

pub go_along-requires-clause-order : goal.go_along-requires-clause-order
go_along-requires-clause-order c = λ d h.
    first_order c.requires.way.0 c.args.block.now c.args.from c.args.way.now.row c.args.node
    (record { from = c.tick_cut.result; holds = c.truth_behind.result; first = true }) c.args.way.now c.requires.way.1
    (begins (goal.at.go_along-requires-clause-order c).After-truth_behind) d
    (subst (λ n. Before (after_time n) d) (c.time-first.ensures none) h)

pub go_along-requires-clause-some : goal.go_along-requires-clause-some
go_along-requires-clause-some c = λ differ.
    elim (cases_lt c.time-begin.result c.time-first.result) [
      | inl l ↦
          same_before (place c.tick_cut.result) (after_time (row_of c.args.block.now c.args.from).time) (after_time c.time-first.result)
          (begins (goal.at.go_along-requires-clause-some c).After-truth_behind)
          (later_order (row_of c.args.block.now c.args.from).time c.time-first.result (let e = c.time-begin.ensures none in omega (arith, l, e)))
      | inr h ↦ absurd (differ (c.truth_behind.ensures.turns h))
    ]

pub returns : goal.returns
returns c = λ b to can.
    let block = c.args.block.now in
    let w = c.args.way.now in
    let way = can.way in
    come_first b block c.args.from to c.args.node w _ way can.last
    (λ l a tr for has.
    can.holds a tr for has
    ∙ sym (c.truth_behind.ensures.stays (let e = c.time-begin.ensures none in let f = c.time-first.ensures none in omega (arith, l, e, f))))
    (begins (goal.at.returns c).After-truth_behind)
    (subst (IsReachAt b c.args.node block w.row) (sym (sum_read b c.args.node block w.row w.sum can.leaf way.sum)) way.sum)
    (subst (λ n. HasGone c.args.edges.now c.go_along.new.edges c.args.node (record { from = c.tick_cut.result; holds = c.truth_behind.result; first = true }) n
    (row_of block w.row).time w.passage w.last c.go_along.new.run) (c.time-first.ensures none)
    (subst (λ n. HasGone c.args.edges.now c.go_along.new.edges c.args.node (record { from = c.tick_cut.result; holds = c.truth_behind.result; first = true })
    c.time-first.result n w.passage w.last c.go_along.new.run) (c.time-second.ensures none) c.in_ok-go_along.ensures))
