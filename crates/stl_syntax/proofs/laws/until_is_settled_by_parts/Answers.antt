use Rattle.stl_syntax.proofs.SettledParts.{until_settled as law}
use Rattle.stl_syntax.proofs.laws.until_is_settled_by_parts.Goals as goal

pub returns : goal.returns
returns c = law
