use Rattle.stl_syntax.specs.Formula.{root}
use Rattle.stl_syntax.proofs.PrintLaw.{one_printed}
use Rattle.stl_syntax.proofs.laws.one_printed_text.Goals as goal

pub returns : goal.returns
returns c f t u h k = one_printed f.scale (root f.nodes) t u h k
