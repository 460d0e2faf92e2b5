use Rattle.stl_grammar.proofs.ReadScale.{read_scales_are_least as law}
use Rattle.stl_grammar.proofs.laws.read_scales_are_least.Goals as goal

pub returns : goal.returns
returns c = law
