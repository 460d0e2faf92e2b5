use Rattle.std.proofs.lemmas.Result.{on_ok_weaker}
use Rattle.verdict_sets.proofs.sets.VerdictSets.take_in.Goals as goal

pub returns : goal.returns
returns c = on_ok_weaker c.grow.result (λ h case k. h case (c.begin_first.ensures case k)) c.grow.ensures
