use Rattle.std.proofs.lemmas.Result.{IfOk-weaker}
use Rattle.implicants.proofs.NearBest.{near_start, near_within}
use Rattle.implicants.proofs.nearby.few.Goals as goal

pub loop-j-init : goal.loop-j-init
loop-j-init c = near_start c.args.runs.now c.args.view c.tick.result c.start-chain.result c.tick.ensures c.requires.order c.start-chain.ensures

pub add_run-requires-clause-before : goal.add_run-requires-clause-before
add_run-requires-clause-before c = c.loop-j.invariant

pub loop-j-preserved : goal.loop-j-preserved
loop-j-preserved c = c.in_ok-add_run.ensures

pub closed-requires-clause-within : goal.closed-requires-clause-within
closed-requires-clause-within c = near_within c.args.runs.now c.args.view c.loop-j.chain c.loop-j.invariant c.requires.late

pub returns : goal.returns
returns c = IfOk-weaker c.closed.result _ _ (λ r f. f c.args.runs.now c.loop-j.invariant) c.closed.ensures
