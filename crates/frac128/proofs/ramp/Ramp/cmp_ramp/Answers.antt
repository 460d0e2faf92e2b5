use Rattle.std.proofs.Common.{rules, to_z-of_z, ◌≡◌, to_z, of_z}
use mir.Syntax.{w64}
use Rattle.rational.proofs.Compare.{order_same}
use Rattle.rational.proofs.Order.{same_sym}
use Rattle.frac128.proofs.Plains.{order_of_wholes}
use Rattle.frac128.proofs.ramp.Ramp.cmp_ramp.Goals as goal

pub returns-in-Some-plain : goal.returns-in-Some-plain
returns-in-Some-plain c =
    let v : to_z w64 (of_z w64 c.in-Some.v) ≡ c.in-Some.v = search (rules, to_z-of_z) in
    let w : to_z w64 (of_z w64 c.in-Some-plain.w) ≡ c.in-Some-plain.w = search (rules, to_z-of_z) in
    order_same c.cmp.result (same_sym c.in-Some.ensures) (same_sym c.in-Some-plain.ensures)
    (order_of_wholes c.cmp.result c.in-Some.v c.in-Some-plain.w (rw (v, w) at c.cmp.ensures))
