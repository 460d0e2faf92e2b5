use Rattle.std.proofs.Common.{sym, subst}
use Rattle.std.specs.Prelude.{MatchBool}
use Rattle.stl_syntax.specs.Formula.{root}
use Rattle.implicants.specs.Explaining.{HoldsAtStart}
use Rattle.implicants.proofs.TruthSignals.{truth_at_start}
use Rattle.explained_answers.proofs.json.holds_at_start.Goals as goal

pub returns : goal.returns
returns c =
    let nodes = c.args.case.now.formula.nodes in
    let tr = c.args.case.now.trace in
    let told = c.requires.told in
    subst (λ b. MatchBool b (HoldsAtStart nodes tr) (¬ HoldsAtStart nodes tr)) (sym c.holds.ensures)
    (truth_at_start (root nodes) tr c.args.truth.now c.knot.result told.values told.tells c.knot.ensures)
