use Rattle.std.proofs.Common.{rules, ◌≡◌, ◌+◌, ◌++◌, ◌∷◌, [], sym, subst, arith}
use Rattle.std.proofs.lemmas.Option.{slice_get_within}
use Rattle.stl_syntax.specs.declared.node.Node.TheVariants.{Atom as Leaf}
use Rattle.offline_eval.specs.Keeping.{AreGivenUp, IsStack, TellsStack}
use Rattle.offline_eval.specs.Places.{reach_before}
use Rattle.offline_eval.proofs.NextNode.{input_sound}
use Rattle.offline_eval.proofs.ChildrenKept.{none_given_up, stack_next, stack_on}
use Rattle.offline_eval.proofs.Sound.{sound_more}
use Rattle.offline_eval.specs.Forms.{of_pieces}
use Rattle.offline_eval.proofs.root.Stack.give.Goals as goal

pub returns-clause-stands : goal.returns-clause-stands
returns-clause-stands g c from to input before =
    let nodes = c.args.formula.now.nodes in
    let i = c.args.i in
    let old = c.self.inside.done.items in
    let y = c.args.chain in
    let st = subst (IsStack (of_pieces g.P.Shape) from to nodes i) (sym c.self.view_is) before in
    let pushed : c.push.new.self.items ≡ old ++ y ∷ [] = search (rules, c.push.ensures.items, c.if-is_err.false, c.is_err.ensures) in
    stack_on (of_pieces g.P.Shape) from to nodes i [] old c.push.new.self.items y (slice_get_within nodes i (Leaf c.requires.0) c.requires.1)
    (subst (AreGivenUp (of_pieces g.P.Shape) from to [] (old ++ y ∷ [])) (sym pushed) (none_given_up (of_pieces g.P.Shape) from to (old ++ y ∷ [])))
    (sound_more (of_pieces g.P.Shape) from to 0 (reach_before nodes (i + 1)) y (omega arith) (input_sound (of_pieces g.P.Shape) from to y input)) st

pub returns-clause-told : goal.returns-clause-told
returns-clause-told g c from to s over before own was =
    let nodes = c.args.formula.now.nodes in
    let i = c.args.i in
    let old = c.self.inside.done.items in
    let y = c.args.chain in
    let st = subst (IsStack (of_pieces g.P.Shape) from to nodes i) (sym c.self.view_is) before in
    let pushed : c.push.new.self.items ≡ old ++ y ∷ [] = search (rules, c.push.ensures.items, c.if-is_err.false, c.is_err.ensures) in
    stack_next (of_pieces g.P.Shape) nodes s from to i (Leaf c.requires.0) old c.push.new.self.items y (record {
      order = c.len.ensures.well_formed.nodes.post_order;
      there = c.requires.1;
      count = st.count;
      over = over;
      given = subst (AreGivenUp (of_pieces g.P.Shape) from to [] (old ++ y ∷ [])) (sym pushed) (none_given_up (of_pieces g.P.Shape) from to (old ++ y ∷ []));
      own = own;
    })
    (subst (TellsStack (of_pieces g.P.Shape) nodes s i) (sym c.self.view_is) was)
