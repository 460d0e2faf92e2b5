use Rattle.std.proofs.Common.{◌/◌, rules, to_z-of_z, refl, arith, w64}
use Rattle.std.proofs.lemmas.Int.{ints}
use Rattle.rational.specs.Rational.{fraction, mixed}
use Rattle.rational.proofs.Order.{same_trans}
use Rattle.rational.proofs.Mixed.{same_by_rest}
use Rattle.frac128.proofs.Making.{Making, common_pos, reduced_pos, reduced_below, reduced_lowest, reduced_den, reduced_value, not_wide, whole_fits}
use Rattle.frac128.proofs.frac.Frac.make_wide.Goals as goal

pub overflow_cast-result : goal.overflow_cast-result
overflow_cast-result c =
    let m : Making c.args.num c.args.den c.split-whole.result.0 c.split-whole.result.1 c.unsigned_abs-all.result c.gcd_of_wide-common.result =
    search (rules, to_z-of_z) in
    let fits = whole_fits w64 m c.requires.floor in
    omega (arith, ints)

pub nonzero_div-result : goal.nonzero_div-result
nonzero_div-result c =
    let m : Making c.args.num c.args.den c.split-whole.result.0 c.split-whole.result.1 c.unsigned_abs-all.result c.gcd_of_wide-common.result =
    search (rules, to_z-of_z) in
    common_pos m

pub invariant_of-result-clause-positive : goal.invariant_of-result-clause-positive
invariant_of-result-clause-positive c =
    let m : Making c.args.num c.args.den c.split-whole.result.0 c.split-whole.result.1 c.unsigned_abs-all.result c.gcd_of_wide-common.result =
    search (rules, to_z-of_z) in
    reduced_pos m

pub invariant_of-result-clause-below : goal.invariant_of-result-clause-below
invariant_of-result-clause-below c =
    let m : Making c.args.num c.args.den c.split-whole.result.0 c.split-whole.result.1 c.unsigned_abs-all.result c.gcd_of_wide-common.result =
    search (rules, to_z-of_z) in
    reduced_below m

pub invariant_of-result-clause-lowest : goal.invariant_of-result-clause-lowest
invariant_of-result-clause-lowest c =
    let m : Making c.args.num c.args.den c.split-whole.result.0 c.split-whole.result.1 c.unsigned_abs-all.result c.gcd_of_wide-common.result =
    search (rules, to_z-of_z) in
    reduced_lowest m

pub returns-clause-ok : goal.returns-clause-ok
returns-clause-ok c =
    let m : Making c.args.num c.args.den c.split-whole.result.0 c.split-whole.result.1 c.unsigned_abs-all.result c.gcd_of_wide-common.result =
    search (rules, to_z-of_z) in
    let fits = whole_fits w64 m c.requires.floor in
    same_trans {b = mixed c.split-whole.result.0 (c.split-whole.result.1 / c.gcd_of_wide-common.result)
    (c.unsigned_abs-all.result / c.gcd_of_wide-common.result) (reduced_pos m)}
    (same_by_rest _ c.split-whole.result.0 _ _ _ _ _ (reduced_pos m) (omega (arith, ints)) refl) (reduced_value m (reduced_pos m))

pub returns-clause-wide : goal.returns-clause-wide
returns-clause-wide c =
    let m : Making c.args.num c.args.den c.split-whole.result.0 c.split-whole.result.1 c.unsigned_abs-all.result c.gcd_of_wide-common.result =
    search (rules, to_z-of_z) in
    not_wide (fraction c.args.num c.args.den) _ (reduced_den m) (omega arith)

pub returns-then-reduced-clause-wide : goal.returns-then-reduced-clause-wide
returns-then-reduced-clause-wide c =
    let m : Making c.args.num c.args.den c.split-whole.result.0 c.split-whole.result.1 c.unsigned_abs-all.result c.gcd_of_wide-common.result =
    search (rules, to_z-of_z) in
    (reduced_den m, omega arith)
