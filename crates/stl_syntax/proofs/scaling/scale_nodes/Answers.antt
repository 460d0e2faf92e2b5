use Rattle.std.proofs.Common.{◌≡◌, ◌≤◌, ◌*◌, arith, set, sym, ◌∙◌, ap, get_or, subst, false}
use Rattle.std.proofs.lemmas.List.Sums.{get_or-le-sum_by}
use Rattle.std.proofs.Math.Nat.{mul-le-mul_left}
use Rattle.stl_syntax.specs.Limits.{own_reach, reach}
use Rattle.stl_syntax.specs.Scaling.{scaled_node, has_large_constant}
use Rattle.stl_syntax.specs.WellFormed.{HasBounds}
use Rattle.stl_syntax.proofs.ScalingLemmas.{replaced_next, replaced_more, replaced_all}
use Rattle.stl_syntax.specs.declared.node.Node.{Node}
use Rattle.stl_syntax.proofs.scaling.scale_nodes.Goals as goal
use Rattle.stl_syntax.proofs.scaling.scale_nodes.Goals.{After-node-item}

-- the next node is as it was
same : (c : goal.After-node-item)
    → get_or c.loop-node.nodes c.loop-node.node-index c.node-item.result ≡ get_or c.args.nodes.now c.loop-node.node-index c.node-item.result
same c =
    ap (λ xs. get_or xs c.loop-node.node-index c.node-item.result) c.loop-node.invariant
    ∙ replaced_next (scaled_node c.args.time c.args.value) c.args.nodes.now c.loop-node.node-index c.node-item.result c.loop-node-test.true

pub scale-requires-clause-bounds : goal.scale-requires-clause-bounds
scale-requires-clause-bounds c = subst HasBounds (sym (same c)) (c.requires.bounds c.loop-node.node-index c.node-item.result c.loop-node-test.true)

pub scale-requires-clause-constant : goal.scale-requires-clause-constant
scale-requires-clause-constant c =
    let P : Node → Type 0 = λ n. has_large_constant c.args.value n ≡ false in
    subst P (sym (same c)) (c.requires.constants c.loop-node.node-index c.node-item.result c.loop-node-test.true)

pub scale-requires-clause-reach : goal.scale-requires-clause-reach
scale-requires-clause-reach c =
    let P : Node → Type 0 = λ n. c.args.time * own_reach n ≤ 4294967295 in
    let part : own_reach (get_or c.args.nodes.now c.loop-node.node-index c.node-item.result) ≤ reach c.args.nodes.now =
    get_or-le-sum_by own_reach c.args.nodes.now c.loop-node.node-index c.node-item.result c.loop-node-test.true in
    subst P (sym (same c)) (omega (arith, mul-le-mul_left c.args.time part, c.requires.reach))

pub loop-node-preserved : goal.loop-node-preserved
loop-node-preserved c =
    let f : Node → Node = scaled_node c.args.time c.args.value in
    let i = c.loop-node.node-index in
    let before : Node = get_or c.args.nodes.now i c.node-item.result in
    ap (set c.loop-node.nodes i) (c.scale.ensures ∙ ap f (same (goal.at.loop-node-preserved c).After-node-item))
    ∙ ap (λ xs. set xs i (f before)) c.loop-node.invariant
    ∙ replaced_more f c.args.nodes.now i c.node-item.result c.loop-node-test.true

pub returns : goal.returns
returns c = c.loop-node.invariant ∙ replaced_all (scaled_node c.args.time c.args.value) c.args.nodes.now c.loop-node.node-index c.loop-node-test.false
