use Rattle.std.proofs.Common.{◌≡◌, ◌++◌, subst, sym, ap, ◌∙◌, true}
use Rattle.value_laws.specs.Kinds.{margin_shape}
use Rattle.pl_signal.specs.Plain.{knots_of}
use Rattle.stl_syntax.specs.Texts.{AreMarginLines}
use Rattle.report.specs.Report.{robust}
use Rattle.whole_answers.specs.Judging.{IsAnswerOf}
use Rattle.whole_answers.proofs.RobustAnswers.{measured}
use Rattle.whole_answers.proofs.robust.measure.Goals as goal

pub returns-in-Ok-put_margins : goal.returns-in-Ok-put_margins
returns-in-Ok-put_margins c = λ f is.
    let case = c.args.case.now in
    let x = c.in-Ok.signal in
    let (w, lines, e) = c.in-Ok-put_margins.ensures.ok in
    let text_is : c.put_margins.new.text ≡ w = e ∙ ap (λ o. o ++ w) c.new-text.ensures in
    subst (IsAnswerOf robust f case.trace true) (sym text_is)
    (measured case f is x w c.in-Ok.ensures.told (subst (λ s. AreMarginLines s (knots_of margin_shape x) w) c.scale-scale.ensures.scale lines))
