use Rattle.std.proofs.Common.{subst, pos, ◌-ℤ◌, ◌-◌, arith, FitsSigned, w64}
use Rattle.std.proofs.lemmas.Int.{ints}
use Rattle.rational.proofs.Mixed.{mixed_mirror, mixed_mirror_whole, mirror_fits_whole, mirror_fits_rest}
use Rattle.frac128.specs.Lowest.{IsLowest}
use Rattle.rational.proofs.Lowest.{lowest_mirror}
use Rattle.frac128.proofs.frac.Frac.mirror.Goals as goal

pub overflow_cast-result : goal.overflow_cast-result
overflow_cast-result c =
    let f = c.args.self.now in
    let fits : FitsSigned w64 (c.args.about -ℤ f.whole) = mirror_fits_whole w64 f.whole c.args.about f.rest f.den f.positive c.if-self-eq0.true c.requires in
    omega (arith, ints)

pub overflow_cast-result-2 : goal.overflow_cast-result-2
overflow_cast-result-2 c =
    let f = c.args.self.now in
    let fits : FitsSigned w64 (c.args.about -ℤ f.whole -ℤ pos 1) =
    mirror_fits_rest w64 f.whole c.args.about f.rest f.den f.positive c.if-self-eq0.false f.below c.requires in
    omega (arith, ints)

pub returns-then-self-eq0-clause-value : goal.returns-then-self-eq0-clause-value
returns-then-self-eq0-clause-value c =
    let f = c.args.self.now in
    let fits : FitsSigned w64 (c.args.about -ℤ f.whole) = mirror_fits_whole w64 f.whole c.args.about f.rest f.den f.positive c.if-self-eq0.true c.requires in
    mixed_mirror_whole _ _ _ _ _ _ _ (omega (arith, ints)) c.if-self-eq0.true

pub returns-clause-value : goal.returns-clause-value
returns-clause-value c =
    let f = c.args.self.now in
    let fits : FitsSigned w64 (c.args.about -ℤ f.whole -ℤ pos 1) =
    mirror_fits_rest w64 f.whole c.args.about f.rest f.den f.positive c.if-self-eq0.false f.below c.requires in
    mixed_mirror _ _ _ _ _ _ _ _ (omega (arith, ints)) (omega arith)

pub invariant_of-result-clause-lowest : goal.invariant_of-result-clause-lowest
invariant_of-result-clause-lowest c = let f = c.args.self.now in subst (λ r. IsLowest (pos r) f.den) c.if-self-eq0.true f.lowest

pub invariant_of-result-2-clause-lowest : goal.invariant_of-result-2-clause-lowest
invariant_of-result-2-clause-lowest c = let f = c.args.self.now in lowest_mirror f.rest f.den (f.den - f.rest) (omega arith) f.lowest
