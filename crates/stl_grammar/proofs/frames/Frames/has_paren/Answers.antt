use Rattle.std.proofs.Common.{◌∙◌, ap}
use Rattle.std.specs.Prelude.{nat_lt}
use Rattle.stl_grammar.proofs.FrameLemmas.{paren_counted}
use Rattle.stl_grammar.proofs.frames.Frames.has_paren.Goals as goal

pub returns : goal.returns
returns c = rw (← c.self.view_is) (ap (λ n. nat_lt 0 n) c.self.invariant.parens ∙ paren_counted _)
