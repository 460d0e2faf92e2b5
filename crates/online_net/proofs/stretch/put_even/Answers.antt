use Rattle.std.proofs.Common.{[], subst, arith}
use Rattle.rational.specs.Places.{begins, ends, Same}
use Rattle.frac128.specs.Spans.{interval}
use Rattle.stl_syntax.specs.Trace.{Row}
use Rattle.stl_syntax.specs.declared.items.Verdict.{Verdict}
use Rattle.online_net.specs.Stretches.{after_time}
use Rattle.online_net.proofs.AtomRuns.{steady_put}
use Rattle.online_net.proofs.stretch.put_even.Goals as goal

abbrev none : Row
none = record { time = 0; values = [] }

pub span_after-on-requires : goal.span_after-on-requires
span_after-on-requires c =
    let e = c.time-first.ensures none in
    let f = c.time-second.ensures none in
    omega (arith, c.requires.rises, e, f)

pub returns : goal.returns
returns c = λ b stays.
    let on = c.span_after-on.result in
    let v : Verdict = record { on = on; holds = c.args.holds } in
    steady_put b c.args.block.now c.args.node c.args.from c.args.to v
    (record { here = c.in_ok-extend.ensures.put; others = c.in_ok-extend.ensures.others; start = c.in_ok-extend.ensures.start })
    (subst (λ n. Same (after_time n) (begins (interval on))) (c.time-first.ensures none) c.span_after-on.ensures.begin)
    (subst (λ n. Same (ends (interval on)) (after_time n)) (c.time-second.ensures none) c.span_after-on.ensures.end) stays
