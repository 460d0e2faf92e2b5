use Rattle.std.proofs.lemmas.Result.{IfOk-weaker}
use Rattle.truth_sets.proofs.nodes.joined.Goals as goal

pub returns-in-Implies-clause-of : goal.returns-in-Implies-clause-of
returns-in-Implies-clause-of c = IfOk-weaker c.either-in-Implies.result _ _ (λ r h on first second. h on (c.complement-fails.ensures.of on first) second)
    c.either-in-Implies.ensures.of
