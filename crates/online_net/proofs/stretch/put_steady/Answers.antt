use Rattle.std.proofs.Common.{◌+◌, ◌<◌, [], length, ap, subst, arith}
use Rattle.rational.specs.Places.{begins, ends, Same}
use Rattle.frac128.specs.Spans.{interval}
use Rattle.stl_syntax.specs.Trace.{Row}
use Rattle.stl_syntax.specs.declared.items.Verdict.{Verdict}
use Rattle.atom_lines.specs.Rows.{row_of}
use Rattle.online_net.specs.Stretches.{after_time}
use Rattle.online_net.proofs.EdgeRows.{rows_rise}
use Rattle.online_net.proofs.AtomRuns.{put_given, steady_put}
use Rattle.online_net.proofs.stretch.put_steady.Goals as goal

abbrev none : Row
none = record { time = 0; values = [] }

pub span_after-on-requires : goal.span_after-on-requires
span_after-on-requires c =
    let within : c.args.at + 1 < length c.args.block.now.rows = omega (arith, c.requires.within, c.requires.next) in
    let r = rows_rise c.args.block.now c.requires.trace c.args.at within in
    let e = c.time-first.ensures none in
    let f = c.time-second.ensures none in
    let g = ap (λ k. (row_of c.args.block.now k).time) c.requires.next in
    omega (arith, r, e, f, g)

pub returns : goal.returns
returns c = λ b stays.
    let block = c.args.block.now in
    let on = c.span_after-on.result in
    let v : Verdict = record { on = on; holds = c.args.holds } in
    steady_put b block c.args.node c.args.at c.args.next v
    (put_given c.args.edges.now c.put.new.self c.args.node v c.requires.edge c.in_ok-put.ensures.put c.in_ok-put.ensures.start)
    (subst (λ n. Same (after_time n) (begins (interval on))) (c.time-first.ensures none) c.span_after-on.ensures.begin)
    (subst (λ n. Same (ends (interval on)) (after_time n)) (c.time-second.ensures none) c.span_after-on.ensures.end) stays
