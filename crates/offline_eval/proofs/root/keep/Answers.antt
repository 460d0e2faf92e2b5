use Rattle.std.proofs.Common.{rules, ◌≡◌, List, ℕ, ◌++◌, ◌∷◌, [], length, refl, subst, arith}
use Rattle.std.specs.Prelude.{option_to_list}
use Rattle.std.proofs.lemmas.Result.{on_ok_weaker}
use Rattle.offline_eval.specs.Keeping.{AreGivenUp}
use Rattle.offline_eval.proofs.ChildrenKept.{left_inside, more_given_up, right_inside}
use Rattle.offline_eval.proofs.NextNode.{pushed_count}
use Rattle.stl_syntax.specs.PostOrder.{children}
use Rattle.offline_eval.specs.Forms.{of_pieces}
use Rattle.offline_eval.proofs.root.keep.Goals as goal

pub give_up-requires-clause-inside : goal.give_up-requires-clause-inside
give_up-requires-clause-inside g c =
    let old = c.args.done.now.items in
    let pushed : c.push.new.self.items ≡ old ++ c.args.chain ∷ [] = search (rules, c.push.ensures.items, c.if-is_err.false, c.is_err.ensures) in
    let longer = pushed_count old c.push.new.self.items c.args.chain (length old) refl pushed in
    left_inside c.inputs-left.result.0 c.inputs-left.result.1 (children c.args.node.now) (length old) (length c.push.new.self.items)
    c.inputs-left.ensures.all c.requires.children (omega (arith, longer))

pub give_up-requires-2-clause-inside : goal.give_up-requires-2-clause-inside
give_up-requires-2-clause-inside g c =
    let old = c.args.done.now.items in
    let pushed : c.push.new.self.items ≡ old ++ c.args.chain ∷ [] = search (rules, c.push.ensures.items, c.if-is_err.false, c.is_err.ensures) in
    let longer = pushed_count old c.push.new.self.items c.args.chain (length old) refl pushed in
    let as_long = c.in_ok-give_up.ensures.count in
    right_inside c.inputs-left.result.0 c.inputs-left.result.1 (children c.args.node.now) (length old) (length c.give_up.new.done.items)
    c.inputs-left.ensures.all c.requires.children (omega (arith, longer, as_long))

pub returns : goal.returns
returns g c =
    let shape = g.P.Shape in
    let left = option_to_list c.inputs-left.result.0 in
    let right = option_to_list c.inputs-left.result.1 in
    let new = c.give_up-2.new.done.items in
    let pushed : c.push.new.self.items ≡ c.args.done.now.items ++ c.args.chain ∷ [] = search
    (rules, c.push.ensures.items, c.if-is_err.false, c.is_err.ensures) in
    on_ok_weaker c.give_up-2.result
    (λ h. subst (λ (ps : List ℕ). AreGivenUp (of_pieces shape) c.args.from c.args.to ps
    (c.args.done.now.items ++ c.args.chain ∷ []) new) c.inputs-left.ensures.all
    (subst (λ xs. AreGivenUp (of_pieces shape) c.args.from c.args.to (left ++ right) xs new) pushed
    (more_given_up (of_pieces shape) c.args.from c.args.to left right c.push.new.self.items c.give_up.new.done.items new c.in_ok-give_up.ensures h)))
    c.give_up-2.ensures
