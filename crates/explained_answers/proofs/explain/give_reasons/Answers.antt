use Rattle.std.proofs.Common.{subst}
use Rattle.explained_answers.specs.Reasons.{IsReasonText}
use Rattle.explained_answers.proofs.ExplainTexts.{atoms_of_reasons, reasoned}
use Rattle.explained_answers.proofs.explain.give_reasons.Goals as goal

pub text_of-requires-clause-atoms : goal.text_of-requires-clause-atoms
text_of-requires-clause-atoms c =
    let is = c.in-Ok.ensures in atoms_of_reasons c.args.formula.now c.args.case.now is.0 c.in-Ok.explained c.requires.case is.1

pub returns-in-Ok-text_of : goal.returns-in-Ok-text_of
returns-in-Ok-text_of c =
    let is = c.in-Ok.ensures in
    let a = c.in-Ok-text_of.answer in
    reasoned c.args.formula.now c.args.case.now is.0 c.in-Ok.explained a.holds a.text c.len.ensures.well_formed c.requires.case is.1
    (subst (λ s. IsReasonText s c.args.formula.now c.in-Ok.explained a.holds a.text) c.scale-scale.ensures.scale c.in-Ok-text_of.ensures)
