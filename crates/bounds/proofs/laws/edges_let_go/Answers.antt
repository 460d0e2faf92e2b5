use Rattle.bounds.proofs.LetGo.{edges_let_go as law}
use Rattle.bounds.proofs.laws.edges_let_go.Goals as goal

pub returns : goal.returns
returns c = law
