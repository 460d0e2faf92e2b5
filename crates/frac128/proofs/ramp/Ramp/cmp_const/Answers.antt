use Rattle.std.proofs.Common.{rules, to_z-of_z, ◌≡◌, to_z, of_z}
use mir.Syntax.{w64}
use Rattle.rational.proofs.Compare.{order_same}
use Rattle.rational.proofs.Order.{same_refl, same_sym, same_trans}
use Rattle.frac128.specs.Value.{value}
use Rattle.frac128.proofs.ramp.Ramp.cmp_const.Goals as goal

pub returns-in-Some : goal.returns-in-Some
returns-in-Some c =
    let v : to_z w64 (of_z w64 c.in-Some.v) ≡ c.in-Some.v = search (rules, to_z-of_z) in
    order_same c.cmp.result (same_trans (rw v at c.of.ensures.value) (same_sym c.in-Some.ensures)) (same_refl (value c.args.c.now)) c.cmp.ensures
