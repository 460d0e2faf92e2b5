use Rattle.std.proofs.Common.{◌≡◌, ◌-◌, ap, ◌∙◌, false, length, subst, arith}
use Rattle.std.proofs.lemmas.List.{length-replicate, get_or_default, get_or-replicate}
use Rattle.std.proofs.lemmas.Option.{slice_get_within}
use Rattle.stl_syntax.proofs.FormulaLemmas.{below_later}
use Rattle.stl_syntax.proofs.PostOrderLemmas.{child_below}
use Rattle.implicants.specs.Signs.{sign_at, AreSigned}
use Rattle.implicants.proofs.Signing.{operands_apart, signed_down}
use Rattle.implicants.proofs.signs.signs_of.Goals as goal

pub loop-j-init : goal.loop-j-init
loop-j-init c =
    let nodes = c.args.formula.now.nodes in
    let all = c.len-count.ensures.count in
    let some = c.len-count.ensures.well_formed.some in
    record {
      count = ap length c.in_ok-signs.ensures ∙ length-replicate c.len-count.result false ∙ all;
      within = omega (arith, all);
      signed = λ k n l at. absurd (let w = slice_get_within nodes k n at in omega (arith, w, l, all));
      root = ap (λ signs. sign_at signs (length nodes - 1)) c.in_ok-signs.ensures
          ∙ get_or-replicate c.len-count.result (length nodes - 1) false false (omega (arith, some, all));
    }

pub put_signs-requires : goal.put_signs-requires
put_signs-requires c = record {
  below = below_later (c.loop-j.j - 1) (length c.loop-j.signs.items) c.node.result.now
      (let w = c.loop-j.invariant.within in let e = c.loop-j.invariant.count in omega (arith, w, e)) c.node.ensures.below;
  apart = operands_apart c.args.formula.now.nodes c.len-count.ensures.well_formed.nodes.post_order (c.loop-j.j - 1) c.node.result.now c.node.ensures.node;
}

pub loop-j-preserved : goal.loop-j-preserved
loop-j-preserved c =
    let nodes = c.args.formula.now.nodes in
    let old = c.loop-j.signs.items in
    let new = c.put_signs.new.signs.items in
    let j = c.loop-j.j - 1 in
    let some = c.loop-j-test.true in
    let within = c.loop-j.invariant.within in
    let count = c.loop-j.invariant.count in
    let here : c.index-sign.result.now ≡ sign_at old j =
    c.index-sign.ensures ∙ get_or_default old j c.index-sign.result.now false (omega (arith, some, within, count)) in
    record {
      count = c.put_signs.ensures.count ∙ c.loop-j.invariant.count;
      within = omega (arith, within);
      signed = signed_down nodes old new j c.node.result.now c.len-count.ensures.well_formed.nodes.post_order c.node.ensures.node
          (subst (AreSigned new c.node.result.now) here c.put_signs.ensures.signed) c.put_signs.ensures.others
          (λ k n l at. c.loop-j.invariant.signed k n (omega (arith, some, l)) at);
      root = c.put_signs.ensures.others (length nodes - 1)
          (λ child. let l = child_below j (length nodes - 1) c.node.result.now c.node.ensures.below child in omega (arith, l, within))
          ∙ c.loop-j.invariant.root;
    }

pub returns : goal.returns
returns c = record {
  count = c.loop-j.invariant.count;
  each = λ k n at. c.loop-j.invariant.signed k n (let none = c.loop-j-test.false in omega (arith, none)) at;
  root = c.loop-j.invariant.root;
}
