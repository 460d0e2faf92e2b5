use Rattle.std.proofs.Common.{rules, to_z-of_z, ◌≡◌, to_z, of_z, Ok}
use mir.Syntax.{w64}
use Rattle.rational.proofs.Order.{same_sym, same_trans}
use Rattle.frac128.proofs.Fractions.{wide_same}
use Rattle.frac128.proofs.Plains.{not_wide_at}
use Rattle.frac128.proofs.ramp.Ramp.fix.Goals as goal

pub returns-in-Some-clause-ok : goal.returns-in-Some-clause-ok
returns-in-Some-clause-ok c =
    let v : to_z w64 (of_z w64 c.in-Some.v) ≡ c.in-Some.v = search (rules, to_z-of_z) in
    same_trans (rw v at c.of.ensures.value) (same_sym c.in-Some.ensures)

pub returns-in-Some-clause-wide : goal.returns-in-Some-clause-wide
returns-in-Some-clause-wide c =
    let v : to_z w64 (of_z w64 c.in-Some.v) ≡ c.in-Some.v = search (rules, to_z-of_z) in
    wide_same (Ok c.of.result) (same_trans (rw v at c.of.ensures.value) (same_sym c.in-Some.ensures)) (not_wide_at c.of.result)
