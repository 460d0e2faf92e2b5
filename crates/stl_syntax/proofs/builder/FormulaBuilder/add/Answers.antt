use Rattle.std.proofs.Common.{◌≡◌, ◌++◌, ◌∷◌, [], length, arith}
use Rattle.stl_syntax.proofs.PostOrderLemmas.{unused_push}
use Rattle.stl_syntax.proofs.WellFormedLemmas.{well_formed_push}
use Rattle.stl_syntax.proofs.builder.FormulaBuilder.add.Goals as goal

pub invariant_of-self-2 : goal.invariant_of-self-2
invariant_of-self-2 c =
    let more : c.push.new.self.items ≡ c.self.inside.nodes.items ++ c.args.node ∷ [] = grind arith in
    rw (more) (well_formed_push c.self.inside.nodes.items c.args.node c.self.invariant
    (rw c.self.view_is c.requires.few) (rw c.self.view_is c.requires.children) c.requires.bounds c.keeps_limits.ensures (rw c.self.view_is c.requires.reach))

pub returns-clause-unused : goal.returns-clause-unused
returns-clause-unused c others last =
    let more : c.push.new.self.items ≡ c.self.inside.nodes.items ++ c.args.node ∷ [] = grind arith in
    let place : c.len-place.result ≡ length c.self.inside.nodes.items = omega arith in
    rw (more, place) (unused_push c.self.inside.nodes.items c.args.node others c.self.invariant.post_order (rw c.self.view_is last))
