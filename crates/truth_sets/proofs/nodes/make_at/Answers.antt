use Rattle.std.proofs.Common.{◌∙◌, sym, subst, refl}
use Rattle.std.specs.Prelude.{MatchBool}
use Rattle.stl_syntax.specs.Views.{IsOfAtom}
use Rattle.truth_sets.proofs.ReadyLemmas.{ready_atom, ready_made, first_operand, second_operand, children_apart, not_first, not_second}
use Rattle.truth_sets.proofs.TellingLemmas.{told_by}
use Rattle.truth_sets.proofs.nodes.make_at.Goals as goal

pub returns-then-is_leaf : goal.returns-then-is_leaf
returns-then-is_leaf c = λ tr over r.
    let n = c.node-node.result.now in
    ready_atom c.args.on.now tr c.args.formula.now.nodes c.args.i n c.node-node.ensures.node c.args.sets.now.items
    (subst IsOfAtom c.view-view.ensures.view
    (subst (λ b. MatchBool b (IsOfAtom c.view-view.result) (IsOfAtom c.view-view.result → ⊥)) c.if-is_leaf.true c.is_leaf.ensures)) r

pub made_by-requires-clause-first : goal.made_by-requires-clause-first
made_by-requires-clause-first c =
    (first_operand c.args.on.now c.requires.ready.0 c.args.formula.now.nodes c.args.i c.node-node.result.now c.node-node.ensures.node
    c.len.ensures.well_formed.nodes.post_order c.args.sets.now.items c.requires.ready.2 c.inputs-left.result.0 c.inputs-left.ensures.first
    c.take-p.result (λ e. c.take-p.ensures.none e c.args.on.now) c.take-p.ensures.some).0

pub made_by-requires-clause-second : goal.made_by-requires-clause-second
made_by-requires-clause-second c =
    let order = c.len.ensures.well_formed.nodes.post_order in
    let nodes = c.args.formula.now.nodes in
    let n = c.node-node.result.now in
    (second_operand c.args.on.now c.requires.ready.0 nodes c.args.i n c.node-node.ensures.node order c.args.sets.now.items c.requires.ready.2
    c.inputs-left.result.1 c.inputs-left.ensures.second c.take-q.result (λ e. c.take-q.ensures.none e c.args.on.now)
    (λ k s e found. c.take-q.ensures.some k s e
    (c.take-p.ensures.others k (λ h. children_apart c.args.on.now c.requires.ready.0 nodes c.args.i n c.node-node.ensures.node order k k
    (sym c.inputs-left.ensures.first ∙ h) (sym c.inputs-left.ensures.second ∙ e) refl) ∙ found))).0

pub returns : goal.returns
returns c = λ tr over r.
    let order = c.len.ensures.well_formed.nodes.post_order in
    let nodes = c.args.formula.now.nodes in
    let n = c.node-node.result.now in
    let there = c.node-node.ensures.node in
    let first = first_operand c.args.on.now tr nodes c.args.i n there order c.args.sets.now.items r c.inputs-left.result.0
    c.inputs-left.ensures.first c.take-p.result (λ e. c.take-p.ensures.none e c.args.on.now) c.take-p.ensures.some in
    let second = second_operand c.args.on.now tr nodes c.args.i n there order c.args.sets.now.items r
    c.inputs-left.result.1 c.inputs-left.ensures.second c.take-q.result (λ e. c.take-q.ensures.none e c.args.on.now)
    (λ k s e found. c.take-q.ensures.some k s e
    (c.take-p.ensures.others k (λ h. children_apart c.args.on.now tr nodes c.args.i n there order k k
    (sym c.inputs-left.ensures.first ∙ h) (sym c.inputs-left.ensures.second ∙ e) refl) ∙ found)) in
    ready_made c.args.on.now tr nodes c.args.i n there c.args.sets.now.items c.take-q.new.sets.items _ _
    (c.take-q.ensures.count ∙ c.take-p.ensures.count)
    (λ k free. c.take-q.ensures.others k (λ h. not_second n k free (sym c.inputs-left.ensures.second ∙ h))
    ∙ c.take-p.ensures.others k (λ h. not_first n k free (sym c.inputs-left.ensures.first ∙ h)))
    refl
    (told_by c.args.on.now tr nodes c.args.i n c.view-view.result _ _ _ c.view-view.ensures.view over c.node-node.ensures.subformula
    (subst (λ b. MatchBool b (IsOfAtom c.view-view.result) (IsOfAtom c.view-view.result → ⊥)) c.if-is_leaf.false c.is_leaf.ensures)
    first.1 second.1 c.in_ok-made.ensures)
    r
