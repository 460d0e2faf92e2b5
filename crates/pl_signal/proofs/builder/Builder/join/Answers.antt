use Rattle.std.proofs.Common.{◌≡◌}
use Rattle.frac128.specs.declared.frac.Frac.{Frac}
use Rattle.frac128.specs.Value.{value}
use Rattle.pl_signal.specs.Knots.{stop}
use Rattle.pl_signal.specs.Joining.{IsGapFault}
use Rattle.pl_signal.proofs.Kept.{fault_kept}
use Rattle.pl_signal.proofs.builder.Builder.join.Goals as goal

pub returns-in-Err-clause-wide : goal.returns-in-Err-clause-wide
returns-in-Err-clause-wide g c =
    fault_kept (λ e. (from : Frac) × (value from ≡ stop c.args.self.now) × IsGapFault g.P.Shape c.args.p.now c.args.q.now from c.args.to.now e)
    c.fault_of.result c.join_kept.new.fault c.fault_of.ensures (c.stop.result, c.stop.ensures.value, tt)
    c.in-Err.ensures.wide
