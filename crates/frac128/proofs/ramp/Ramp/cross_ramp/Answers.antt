use Rattle.frac128.specs.Line.{line}
use Rattle.frac128.proofs.Differences.{meeting}
use Rattle.frac128.proofs.ramp.Ramp.cross_ramp.Goals as goal

pub returns-clause-meets : goal.returns-clause-meets
returns-clause-meets c = meeting (line c.args.self.now) (line c.args.other.now) _ _ c.root.result c.of.ensures c.root.ensures
