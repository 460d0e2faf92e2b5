use Rattle.std.proofs.Common.{◌++◌, ◌+◌, length-take, codes, ap, ◌∙◌, arith}
use Rattle.answer_lines.proofs.TextsBehind.{add_as}
use Rattle.session_mux.proofs.tag.LoadedTag.put.Goals as goal

pub returns-clause-added : goal.returns-clause-added
returns-clause-added c = add_as (c.self.invariant.1 ∙ ap (λ w. w ++ codes " ") c.self.view_is) c.store.ensures

pub returns-clause-few : goal.returns-clause-few
returns-clause-few c =
    omega (arith, c.store.ensures.size, length-take (c.self.inside.len + 1) c.self.inside.bytes, c.self.invariant.0)
