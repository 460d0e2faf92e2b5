use Rattle.std.proofs.Common.{◌≡◌, ℕ, List, sym, subst, arith}
use Rattle.rational.proofs.Lists.{take_rest}
use Rattle.session_mux.specs.Saying.{HasLastLines}
use Rattle.session_mux.proofs.LastLines.{AreLast, last_none, last_more, last_eight_are}
use Rattle.session_mux.proofs.recent.last_lines.Goals as goal

pub loop-line-init : goal.loop-line-init
loop-line-init c = last_none c.args.text.now

pub loop-line-preserved : goal.loop-line-preserved
loop-line-preserved c =
    last_more c.args.text.now c.loop-line.from c.loop-line._line c.last_begins-from.result c.loop-line.invariant c.last_begins-from.ensures.less
    c.last_begins-from.ensures.ends c.last_begins-from.ensures.line

pub returns : goal.returns
returns c =
    let text = c.args.text.now in
    let from = c.loop-line.from in
    let eight : c.loop-line._line ≡ 8 = omega (arith, c.loop-line-test.false, c.loop-line.auto._line-end) in
    subst (λ (w : List ℕ). HasLastLines text w) (sym (take_rest text from))
    (last_eight_are text from (subst (λ n. AreLast text from n) eight c.loop-line.invariant))
