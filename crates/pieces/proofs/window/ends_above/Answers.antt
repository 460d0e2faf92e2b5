use Rattle.std.proofs.Common.{arith, sym, subst, w64}
use Rattle.std.proofs.lemmas.Int.{ints}
use Rattle.rational.specs.Rational.{FitsFloor, add, whole}
use Rattle.rational.specs.Time.{◌≈◌}
use Rattle.rational.specs.Extended.{value_at}
use Rattle.rational.proofs.AffineLemmas.{value_same}
use Rattle.rational.proofs.Mixed.{move_fits}
use Rattle.rational.proofs.Order.{same_sym, same_trans}
use Rattle.rational.proofs.Sames.{transᵉ}
use Rattle.frac128.specs.Value.{value}
use Rattle.pieces.proofs.Bests.{favour_first, nw_same, nw_trans}
use Rattle.pieces.proofs.Shifts.{low_from, low_to, passed, room}
use Rattle.pieces.proofs.window.ends_above.Goals as goal

pub shift-requires : goal.shift-requires
shift-requires g c =
    let low = c.args.way.now.over.low in
    let a = low_from c.args.way.now.over c.requires.small in
    let b = low_to c.args.way.now.over c.requires.small in
    subst (λ z. FitsFloor w64 (add (value c.args.step.now.until.time) (whole z))) (sym (passed low a b))
    (move_fits (value c.args.step.now.until.time) low c.requires.within (omega (arith, ints, a, b)))

pub at_low-requires-clause-room : goal.at_low-requires-clause-room
at_low-requires-clause-room g c = room (g.P.Shape.base c.args.shape.now) c.args.way.now.over.low c.requires.near
    (low_from c.args.way.now.over c.requires.small) (low_to c.args.way.now.over c.requires.small)

pub returns-in_default-favour : goal.returns-in_default-favour
returns-in_default-favour g c h =
    let low = c.args.way.now.over.low in
    let here = value c.args.step.now.until.time in
    let comes : value c.shift.result ≈ add here (whole low) = subst (λ z. value c.shift.result ≈ add here (whole z))
    (passed low (low_from c.args.way.now.over c.requires.small) (low_to c.args.way.now.over c.requires.small)) c.shift.ensures.value in
    nw_trans (favour_first c.args.way.now.side c.favour.result (value_at (g.P.Shape.function c.args.step.now.shape) here)
    (value_at (g.P.Shape.function c.at_low.result) here) c.favour.ensures c.in_default-favour.not-Greater)
    (nw_same c.args.way.now.side (transᵉ (c.at_low.ensures.value here)
    (value_same (g.P.Shape.function c.args.shape.now) (same_trans (same_sym comes) c.in-Equal.ensures))))
