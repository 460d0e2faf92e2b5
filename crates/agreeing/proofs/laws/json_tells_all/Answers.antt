use Rattle.agreeing.proofs.OneContent.{json_tells_all as law}
use Rattle.agreeing.proofs.laws.json_tells_all.Goals as goal

pub returns : goal.returns
returns c = law
