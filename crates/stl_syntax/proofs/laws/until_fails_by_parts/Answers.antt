use Rattle.stl_syntax.proofs.SettledParts.{until_fails as law}
use Rattle.stl_syntax.proofs.laws.until_fails_by_parts.Goals as goal

pub returns : goal.returns
returns c = law
