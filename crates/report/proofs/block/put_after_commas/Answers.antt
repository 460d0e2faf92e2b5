use Rattle.std.proofs.Common.{◌≡◌, ◌-◌, ◌++◌, length, length-set, set, take, ap, ◌∙◌, arith}
use Rattle.std.proofs.lemmas.Result.{on_ok_weaker}
use Rattle.report.proofs.Blocks.{led, array_some}
use Rattle.report.proofs.block.put_after_commas.Goals as goal

pub index_mut-requires : goal.index_mut-requires
index_mut-requires c =
    omega (arith, array_some c.args.objects.now.items c.in_ok-written.written.items c.in_ok-written.ensures.text, c.in_ok-written.written.ok)

pub returns-clause-ok : goal.returns-clause-ok
returns-clause-ok c =
    let w = c.in_ok-written.written in
    let end = c.len-end.result - 1 in
    let count : end ≡ length (set w.items 0 44) - 1 = omega (arith, c.len-end.ensures, w.ok, length-set w.items 0 44) in
    on_ok_weaker c.push.result
    (λ e. e ∙ ap (λ x. c.args.text.now ++ x) (ap (take end) c.deref.ensures.value
    ∙ led c.args.objects.now.items w.items end c.requires.some c.in_ok-written.ensures.text count)) c.push.ensures.ok
