use Rattle.frac128.specs.Value.{value}
use Rattle.frac128.specs.Line.{line}
use Rattle.std.proofs.Common.{◌≡◌, true, false, refl}
use Rattle.std.specs.Ordering.{is_eq}
use Rattle.rational.specs.Line.{constant}
use Rattle.rational.specs.Rational.{rational_cmp}
use Rattle.rational.proofs.Compare.{order_from_cmp}
use Rattle.rational.specs.Extended.{affine}
use Rattle.value_laws.proofs.MarginLemmas.{same_lines_values, same_line_constant, same_swap, same_constants, line_apart, constant_apart, low_apart, high_apart}
use Rattle.value_laws.proofs.margin.MarginShape.same.Goals as goal

pub returns-in-Ramp-Ramp : goal.returns-in-Ramp-Ramp
returns-in-Ramp-Ramp c =
    rw (c.in-Ramp-Ramp.is-0, c.in-Ramp-Ramp.is-1) (same_lines_values c.same.result (line c.in-Ramp-Ramp.f) (line c.in-Ramp-Ramp.g) c.same.ensures)

pub returns-in-Ramp-Fixed : goal.returns-in-Ramp-Fixed
returns-in-Ramp-Fixed c =
    rw (c.in-Ramp-Fixed.is-0, c.in-Ramp-Fixed.is-1) (same_line_constant c.is_level.result (line c.in-Ramp-Fixed.f) (value c.in-Ramp-Fixed.c) c.is_level.ensures)

pub returns-in-Fixed-Ramp : goal.returns-in-Fixed-Ramp
returns-in-Fixed-Ramp c =
    let b = c.is_level-in-Fixed-Ramp.result in let f = line c.in-Fixed-Ramp.f in let v = value c.in-Fixed-Ramp.c in
    rw (c.in-Fixed-Ramp.is-0, c.in-Fixed-Ramp.is-1) (same_swap b (affine f) (affine (constant v)) (same_line_constant b f v c.is_level-in-Fixed-Ramp.ensures))

pub returns-in-Fixed-Fixed : goal.returns-in-Fixed-Fixed
returns-in-Fixed-Fixed c =
    let a = value c.in-Fixed-Fixed.c in
    let b = value c.in-Fixed-Fixed.d in
    let told : c.eq.result ≡ is_eq (rational_cmp a b) = c.eq.ensures in
    rw (c.in-Fixed-Fixed.is-0, c.in-Fixed-Fixed.is-1, told) (same_constants (rational_cmp a b) a b (order_from_cmp (rational_cmp a b) a b refl))

pub returns-in_default : goal.returns-in_default
returns-in_default c = (
  (λ b. absurd (let x : false ≡ true = b in cc)),
  λ s. absurd (line_apart c.in_default.field-0-0 c.args.q.now c.in_default.not-Fixed-1 c.in_default.not-Ramp-1 (rw c.in_default.is-0 at s)),
)

pub returns-in_default-2 : goal.returns-in_default-2
returns-in_default-2 c = (
  (λ b. absurd (let x : false ≡ true = b in cc)),
  λ s. absurd (constant_apart c.in_default.field-0-0 c.args.q.now c.in_default.not-Fixed-1 c.in_default.not-Ramp-1 (rw c.in_default.is-0 at s)),
)

pub returns-in_default-3 : goal.returns-in_default-3
returns-in_default-3 c = (
  (λ b. absurd (let x : false ≡ true = b in cc)),
  λ s. absurd (low_apart c.args.q.now c.in_default.not-Low-1 (rw c.in_default.is-0 at s)),
)

pub returns-in_default-4 : goal.returns-in_default-4
returns-in_default-4 c = (
  (λ b. absurd (let x : false ≡ true = b in cc)),
  λ s. absurd (high_apart c.args.q.now c.in_default.not-High-1 (rw c.in_default.is-0 at s)),
)
