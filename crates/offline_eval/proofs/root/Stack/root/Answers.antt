use Rattle.std.proofs.Common.{rules, ◌≡◌, ◌++◌, ◌∷◌, [], ◌<◌, ◌∙◌, length, sym, ap, subst, arith}
use Rattle.offline_eval.specs.Keeping.{TellsStack}
use Rattle.offline_eval.proofs.ChildrenKept.{stack_root}
use Rattle.offline_eval.specs.Forms.{of_pieces}
use Rattle.offline_eval.proofs.root.Stack.root.Goals as goal

pub unreachable-requires : goal.unreachable-requires
unreachable-requires g c =
    let some : 0 < length c.self.inside.done.items = let r = c.requires in omega (arith, ap length c.self.view_is) in
    search (rules, c.in-None.ensures.cases)

pub returns : goal.returns
returns g c nodes s count told =
    let last : c.self.inside.done.items ≡ c.pop.new.self.items ++ c.in-Some.chain ∷ [] = rw c.in-Some.is at c.pop.ensures.items in
    stack_root (of_pieces g.P.Shape) nodes s c.self.inside.done.items c.pop.new.self.items c.in-Some.chain
    (let some = c.requires in omega (arith, count, some)) (ap length c.self.view_is ∙ sym count) last
    (subst (TellsStack (of_pieces g.P.Shape) nodes s (length nodes)) (sym c.self.view_is) told)
