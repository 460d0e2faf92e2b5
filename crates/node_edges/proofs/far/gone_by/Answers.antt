use Rattle.std.proofs.Common.{◌<◌, IfSome, sym, subst, length, arith}
use Rattle.rational.specs.Rational.{◌≤ʳ◌, ◌<ʳ◌}
use Rattle.frac128.specs.Value.{value}
use Rattle.node_edges.proofs.DroppingLemmas.{above_of_not}
use Rattle.node_edges.proofs.FarSteps.{each_more, get_at, rest_past}
use Rattle.node_edges.proofs.far.gone_by.Goals as goal

pub loop-gone-preserved : goal.loop-gone-preserved
loop-gone-preserved g c =
    let b = c.args.block.now in
    let n = c.loop-gone.gone in
    let below : n < length b.items = omega (arith, c.loop-gone-test.true, c.len.ensures, b.ok.0) in
    let here = get_at b.items n c.index.result.now below c.index.ensures in
    record {
      from = omega (arith, c.loop-gone.invariant.from);
      within = omega (arith, below);
      ended = each_more (λ v. g.T.Part.end v ≤ʳ value c.args.end.now) b.items c.args.from n c.index.result.now c.loop-gone.invariant.ended here
          (c.ends_by.ensures.0 c.if-ends_by.true);
    }

pub returns-else-ends_by-clause-rest : goal.returns-else-ends_by-clause-rest
returns-else-ends_by-clause-rest g c =
    let b = c.args.block.now in
    let n = c.loop-gone.gone in
    let below : n < length b.items = omega (arith, c.loop-gone-test.true, c.len.ensures, b.ok.0) in
    let here = get_at b.items n c.index.result.now below c.index.ensures in
    subst (λ o. IfSome o (λ v. value c.args.end.now <ʳ g.T.Part.end v)) (sym here)
    (above_of_not _ _ (λ le. let e = c.ends_by.ensures.1 le in let f = c.if-ends_by.false in cc))

pub returns-after-loop-gone-clause-rest : goal.returns-after-loop-gone-clause-rest
returns-after-loop-gone-clause-rest g c =
    let b = c.args.block.now in
    rest_past (λ v. value c.args.end.now <ʳ g.T.Part.end v) b.items c.loop-gone.gone (omega (arith, c.loop-gone-test.false, c.len.ensures, b.ok.0))
