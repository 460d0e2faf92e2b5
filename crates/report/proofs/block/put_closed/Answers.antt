use Rattle.std.proofs.Common.{◌++◌, drop, ap, ◌∙◌}
use Rattle.std.proofs.lemmas.Result.{on_ok_weaker}
use Rattle.std.proofs.lemmas.List.{take_rest}
use Rattle.report.proofs.Blocks.{unopened}
use Rattle.report.proofs.block.put_closed.Goals as goal

pub returns-clause-ok : goal.returns-clause-ok
returns-clause-ok c =
    on_ok_weaker c.push.result
    (λ e. e ∙ ap (λ x. c.args.text.now ++ x) (take_rest c.deref.result.now 1 ∙ ap (drop 1) c.deref.ensures.value
    ∙ unopened c.args.objects.now.items c.in_ok-written.written.items c.in_ok-written.ensures.text)) c.push.ensures.ok
