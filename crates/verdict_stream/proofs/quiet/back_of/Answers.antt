use Rattle.std.proofs.Common.{◌≡◌, ◌+◌, ◌-◌, ◌<◌, ◌≤◌, length, refl, sym, ap, ◌∙◌, subst, arith}
use Rattle.std.proofs.lemmas.Option.{get_or_from_slice_get}
use Rattle.stl_syntax.specs.Formula.{root}
use Rattle.bounds.specs.Turns.{looks_back}
use Rattle.verdict_stream.proofs.SteadyNodes.{back_before, back_more, back_covers}
use Rattle.verdict_stream.proofs.quiet.back_of.Goals as goal

pub loop-i-init : goal.loop-i-init
loop-i-init c = record { sum = refl; small = omega arith }

pub overflow_add-back : goal.overflow_add-back
overflow_add-back c =
    let f = c.len-i-end.ensures.well_formed in
    omega (arith, c.loop-i.invariant.small, c.own_back-back.ensures.small, c.loop-i-test.true, c.len-i-end.ensures.count, f.nodes.few)

pub loop-i-preserved : goal.loop-i-preserved
loop-i-preserved c =
    let nodes = c.args.formula.now.nodes in
    let i = c.loop-i.i in
    let n = c.node.result.now in
    let l : i < length nodes = omega (arith, c.loop-i-test.true, c.len-i-end.ensures.count) in
    let more = back_more nodes i n l (get_or_from_slice_get nodes i n n c.node.ensures.node) in
    record {
      sum = (let a = c.loop-i.invariant.sum in let b = c.own_back-back.ensures.is in omega (arith, a, b, more));
      small = omega (arith, c.loop-i.invariant.small, c.own_back-back.ensures.small);
    }

pub returns-clause-covers : goal.returns-clause-covers
returns-clause-covers c =
    let nodes = c.args.formula.now.nodes in
    let f = c.len-i-end.ensures.well_formed in
    let end : c.loop-i.i ≡ length nodes = (let a = c.loop-i.auto.i-end in let b = c.loop-i-test.false in omega (arith, a, b, c.len-i-end.ensures.count)) in
    let last : (length nodes - 1) + 1 ≡ length nodes = omega (arith, f.some) in
    let covers = back_covers nodes f.nodes.post_order (length nodes - 1) (omega (arith, f.some)) in
    let sum : back_before nodes ((length nodes - 1) + 1) ≡ c.loop-i.back = ap (λ k. back_before nodes k) (last ∙ sym end) ∙ sym c.loop-i.invariant.sum in
    subst (λ k. looks_back (root nodes) ≤ k) sum covers

pub returns-clause-small : goal.returns-clause-small
returns-clause-small c =
    let f = c.len-i-end.ensures.well_formed in
    let a = c.loop-i.auto.i-end in
    let b = c.loop-i-test.false in
    omega (arith, c.loop-i.invariant.small, a, b, c.len-i-end.ensures.count, f.nodes.few)
