use Rattle.std.proofs.Common.{◌<◌, arith, sym, subst}
use Rattle.rational.specs.Affine.{IsSteady}
use Rattle.pieces.proofs.LevelsLemmas.{place_of_shape}
use Rattle.pieces.proofs.ReadUpTo.{is_inside}
use Rattle.pieces.proofs.levels.are_levels.Goals as goal

pub returns : goal.returns
returns g c is p h =
    let (i, q, at, e) = place_of_shape c.args.s.now.pieces p h in
    let below : i < c.loop-i.i =
    let k = is_inside c.args.s.now.pieces i q at in let more = c.loop-i-test.false in let count = c.len-i-end.ensures.value in
    let over = c.loop-i.auto.i-end in omega (arith, k, more, count, over) in
    subst (λ r. IsSteady (g.P.Shape.function r)) (sym e) (c.loop-i.invariant.steady i q below at)
