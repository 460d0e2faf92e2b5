use Rattle.std.proofs.Common.{◌≡◌, ◌-◌, ◌++◌, length, drop, ap, ◌∙◌, arith}
use Rattle.std.proofs.lemmas.Result.{on_ok_weaker}
use Rattle.std.proofs.lemmas.List.{take_rest}
use Rattle.report.proofs.Blocks.{followed, array_some}
use Rattle.report.proofs.block.put_before_commas.Goals as goal

pub index_mut-requires : goal.index_mut-requires
index_mut-requires c =
    omega (
      arith,
      array_some c.args.objects.now.items c.in_ok-written.written.items c.in_ok-written.ensures.text,
      c.in_ok-written.written.ok,
      c.len-last.ensures,
    )

pub returns-clause-ok : goal.returns-clause-ok
returns-clause-ok c =
    let w = c.in_ok-written.written in
    let last = c.len-last.result - 1 in
    let count : last ≡ length w.items - 1 = omega (arith, c.len-last.ensures, w.ok) in
    on_ok_weaker c.push.result
    (λ e. e ∙ ap (λ x. c.args.text.now ++ x) (take_rest c.deref.result.now 1 ∙ ap (drop 1) c.deref.ensures.value
    ∙ followed c.args.objects.now.items w.items last c.requires.some c.in_ok-written.ensures.text count)) c.push.ensures.ok
