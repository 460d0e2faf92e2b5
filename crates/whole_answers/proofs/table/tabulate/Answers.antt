use Rattle.std.proofs.Common.{◌≡◌, ◌++◌, subst, sym, ap, ◌∙◌, true}
use Rattle.value_laws.specs.Kinds.{margin_shape}
use Rattle.pl_signal.specs.Plain.{knots_of}
use Rattle.report.specs.Report.{table}
use Rattle.report.specs.Table.{IsTableText}
use Rattle.whole_answers.specs.Judging.{IsAnswerOf}
use Rattle.whole_answers.proofs.RobustAnswers.{tabulated, untabulated}
use Rattle.whole_answers.proofs.table.tabulate.Goals as goal

pub returns-in-Err : goal.returns-in-Err
returns-in-Err c = λ f is. untabulated f c.args.case.now.trace c.in-Err.stop (c.in-Err.ensures.none f is)

pub returns-in-Ok-put_table : goal.returns-in-Ok-put_table
returns-in-Ok-put_table c = λ f is.
    let case = c.args.case.now in
    let x = c.in-Ok.signal in
    let (w, lines, e) = c.in-Ok-put_table.ensures.ok in
    let text_is : c.put_table.new.text ≡ w = e ∙ ap (λ o. o ++ w) c.new-text.ensures in
    subst (IsAnswerOf table f case.trace true) (sym text_is)
    (tabulated case f is x w c.in-Ok.ensures.told (subst (λ s. IsTableText s (knots_of margin_shape x) w) c.scale-scale.ensures.scale lines))
