use Rattle.std.proofs.Common.{◌≡◌, ◌≤◌, ◌^◌, sym, subst}
use Rattle.std.specs.Prelude.{◌-ℤ◌, IsTrue}
use Rattle.std.specs.Int.RustNames.{unsigned_abs}
use Rattle.rational.specs.Rational.{Rational, add, whole}
use Rattle.rational.specs.Extended.{value_at, ◌≈ᵉ◌}
use Rattle.pieces.proofs.Shifts.{high_from, high_to, passed}
use Rattle.pieces.proofs.reach.at_high.Goals as goal

pub shift-requires : goal.shift-requires
shift-requires g c = subst (λ z. unsigned_abs (g.P.Shape.base c.args.shape.now -ℤ z) ≤ 2 ^ 34)
    (sym (passed c.args.over.now.high (high_from c.args.over.now c.requires.small) (high_to c.args.over.now c.requires.small))) c.requires.room

pub returns-clause-value : goal.returns-clause-value
returns-clause-value g c = subst (λ z. (t : Rational) → value_at (g.P.Shape.function c.shift.result) t ≈ᵉ value_at
    (g.P.Shape.function c.args.shape.now) (add t (whole z)))
    (passed c.args.over.now.high (high_from c.args.over.now c.requires.small) (high_to c.args.over.now c.requires.small)) c.shift.ensures.value

pub returns-clause-base : goal.returns-clause-base
returns-clause-base g c = subst (λ z. IsTrue (g.P.Shape.moves c.shift.result) → IsTrue (g.P.Shape.moves c.args.shape.now)
    × (g.P.Shape.base c.shift.result ≡ g.P.Shape.base c.args.shape.now -ℤ z))
    (passed c.args.over.now.high (high_from c.args.over.now c.requires.small) (high_to c.args.over.now c.requires.small)) c.shift.ensures.base
