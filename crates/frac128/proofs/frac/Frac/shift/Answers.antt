use Rattle.std.proofs.Common.{◌+ℤ◌, arith, FitsSigned, w64}
use Rattle.std.proofs.lemmas.Int.{ints}
use Rattle.rational.proofs.Mixed.{mixed_shift, shift_fits_whole}
use Rattle.frac128.proofs.frac.Frac.shift.Goals as goal

pub overflow_add-whole : goal.overflow_add-whole
overflow_add-whole c =
    let f = c.args.self.now in
    let fits : FitsSigned w64 (f.whole +ℤ c.args.by) = shift_fits_whole w64 f.whole c.args.by f.rest f.den f.positive f.below c.requires in
    omega (arith, ints)

pub returns-clause-value : goal.returns-clause-value
returns-clause-value c =
    let f = c.args.self.now in
    let fits : FitsSigned w64 (f.whole +ℤ c.args.by) = shift_fits_whole w64 f.whole c.args.by f.rest f.den f.positive f.below c.requires in
    mixed_shift _ _ _ _ _ _ _ (omega (arith, ints))
