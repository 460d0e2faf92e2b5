use Rattle.report.proofs.JsonData.{inside_is}
use Rattle.report.proofs.json.inside.Goals as goal

pub returns : goal.returns
returns c = inside_is c.args.written.now c.requires.0 c.requires.1
