use Rattle.stl_syntax.proofs.SettledParts.{since_fails as law}
use Rattle.stl_syntax.proofs.laws.since_fails_by_parts.Goals as goal

pub returns : goal.returns
returns c = law
