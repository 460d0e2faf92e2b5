use Rattle.std.proofs.Common.{◌/◌, refl, arith}
use Rattle.std.proofs.lemmas.Int.{ints}
use Rattle.std.proofs.Math.Nat.{div-le_self}
use Rattle.rational.specs.Rational.{mixed}
use Rattle.rational.proofs.Order.{same_trans}
use Rattle.rational.proofs.Mixed.{same_by_rest}
use Rattle.frac128.proofs.Making.{making_mixed, reduced_pos, reduced_below, reduced_lowest, reduced_value, common_pos}
use Rattle.frac128.proofs.frac.Frac.mixed.Goals as goal

pub nonzero_div-result : goal.nonzero_div-result
nonzero_div-result c = common_pos (making_mixed c.args.whole c.args.rest c.args.den c.gcd-common.result c.requires.below c.gcd-common.ensures)

pub invariant_of-result-clause-positive : goal.invariant_of-result-clause-positive
invariant_of-result-clause-positive c = reduced_pos (making_mixed c.args.whole c.args.rest c.args.den c.gcd-common.result c.requires.below c.gcd-common.ensures)

pub invariant_of-result-clause-below : goal.invariant_of-result-clause-below
invariant_of-result-clause-below c = reduced_below (making_mixed c.args.whole c.args.rest c.args.den c.gcd-common.result c.requires.below c.gcd-common.ensures)

pub invariant_of-result-clause-small : goal.invariant_of-result-clause-small
invariant_of-result-clause-small c = let l = div-le_self c.args.den c.gcd-common.result in let s = c.requires.small in omega arith

pub invariant_of-result-clause-lowest : goal.invariant_of-result-clause-lowest
invariant_of-result-clause-lowest c =
    reduced_lowest (making_mixed c.args.whole c.args.rest c.args.den c.gcd-common.result c.requires.below c.gcd-common.ensures)

pub returns : goal.returns
returns c =
    let m = making_mixed c.args.whole c.args.rest c.args.den c.gcd-common.result c.requires.below c.gcd-common.ensures in
    same_trans {b = mixed c.args.whole (c.args.rest / c.gcd-common.result) (c.args.den / c.gcd-common.result) (reduced_pos m)}
    (same_by_rest _ c.args.whole _ _ _ _ _ (reduced_pos m) (omega (arith, ints)) refl) (reduced_value m (reduced_pos m))
