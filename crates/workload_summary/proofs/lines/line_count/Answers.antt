use Rattle.std.proofs.Common.{◌≡◌, length, subst, arith}
use Rattle.workload_summary.proofs.LineCounts.{HasCounted, counted_more, counted_all}
use Rattle.workload_summary.proofs.lines.line_count.Goals as goal

pub loop-i-init : goal.loop-i-init
loop-i-init c = (omega arith, omega arith)

pub loop-i-preserved : goal.loop-i-preserved
loop-i-preserved c =
    counted_more c.args.text.now c.loop-i.i c.loop-i.lines c.ended-lines.result 0 c.loop-i-test.true c.ended-lines.ensures.few c.ended-lines.ensures.lines
    c.loop-i.invariant

pub returns : goal.returns
returns c =
    let all : c.loop-i.i ≡ length c.args.text.now = omega (arith, c.loop-i-test.false, c.loop-i.auto.i-end) in
    counted_all c.args.text.now c.loop-i.lines (subst (λ i. HasCounted c.args.text.now i c.loop-i.lines) all c.loop-i.invariant)
