use Rattle.stl_syntax.proofs.SettledParts.{since_settled as law}
use Rattle.stl_syntax.proofs.laws.since_is_settled_by_parts.Goals as goal

pub returns : goal.returns
returns c = law
