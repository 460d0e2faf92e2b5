use Rattle.std.proofs.Common.{refl, subst}
use Rattle.stl_syntax.specs.SupInf.{truth_setting}
use Rattle.value_laws.specs.Values.{truth_value}
use Rattle.value_laws.specs.Kinds.{truth_shape}
use Rattle.offline_eval.specs.Evaluation.{IsFault}
use Rattle.offline_eval.proofs.Never.{levels_are_never_wide}
use Rattle.whole_answers.proofs.answer.truth_of.Goals as goal

pub unreachable-requires : goal.unreachable-requires
unreachable-requires c =
    let case = c.args.case.now in
    let s = truth_setting case.trace in
    let wide = subst (IsFault truth_shape case.formula.nodes s) c.in-Err-Wide.field-0-is c.in-Err-Wide.ensures.wide in
    levels_are_never_wide truth_shape (λ p. truth_value p.holds)
    (λ p. refl) case.formula.nodes s c.in-Err-Wide.field-0-0.node c.in-Err-Wide.field-0-0.pair wide.1
