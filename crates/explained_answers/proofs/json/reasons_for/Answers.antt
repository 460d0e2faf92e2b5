use Rattle.std.proofs.Common.{refl, subst}
use Rattle.std.specs.Prelude.{MatchBool}
use Rattle.implicants.specs.Explaining.{HoldsAtStart}
use Rattle.explained_answers.proofs.json.reasons_for.Goals as goal

pub reasons_from-requires-clause-fails : goal.reasons_from-requires-clause-fails
reasons_from-requires-clause-fails c =
    let nodes = c.args.case.now.formula.nodes in
    let tr = c.args.case.now.trace in
    subst (λ b. MatchBool b (HoldsAtStart nodes tr) (¬ HoldsAtStart nodes tr)) c.if-holds_at_start.false c.holds_at_start.ensures

pub returns-then-holds_at_start : goal.returns-then-holds_at_start
returns-then-holds_at_start c =
    let nodes = c.args.case.now.formula.nodes in
    let tr = c.args.case.now.trace in
    (1, (subst (λ b. MatchBool b (HoldsAtStart nodes tr) (¬ HoldsAtStart nodes tr)) c.if-holds_at_start.true c.holds_at_start.ensures, refl), refl)
