use Rattle.std.proofs.Common.{subst, sym, arith}
use Rattle.implicants.specs.Upward.{AreAmong}
use Rattle.implicants.proofs.GivenUp.{among_both, among_without}
use Rattle.implicants.proofs.runs.take_out.Goals as goal

pub loop-runs-init : goal.loop-runs-init
loop-runs-init c j r h = (j, h)

pub loop-runs-preserved : goal.loop-runs-preserved
loop-runs-preserved c = among_both c.remove.new.self.items c.loop-runs.runs.items c.args.runs.now.items
    (subst (λ new. AreAmong new c.loop-runs.runs.items) (sym c.remove.ensures.items) (among_without c.args.at c.loop-runs.runs.items)) c.loop-runs.invariant

pub loop-runs-smaller : goal.loop-runs-smaller
loop-runs-smaller c = let e = c.remove.ensures.len in omega (arith, e)
