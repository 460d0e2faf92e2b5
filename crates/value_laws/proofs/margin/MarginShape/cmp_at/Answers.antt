use Rattle.frac128.specs.Value.{value}
use Rattle.frac128.specs.Line.{line}
use Rattle.rational.specs.Line.{constant}
use Rattle.rational.specs.Extended.{affine, value_at}
use Rattle.std.specs.Ordering.{ordering_reverse}
use Rattle.std.proofs.Common.{◌≡◌}
use Rattle.value_laws.proofs.MarginLemmas.{line_to_constant, constant_to_constant, reversed_order}
use Rattle.value_laws.proofs.margin.MarginShape.cmp_at.Goals as goal

pub returns-in-Ramp-Fixed : goal.returns-in-Ramp-Fixed
returns-in-Ramp-Fixed c =
    rw (c.in-Ramp-Fixed.is-0, c.in-Ramp-Fixed.is-1)
    (line_to_constant c.cmp_const.result (line c.in-Ramp-Fixed.f) (value c.in-Ramp-Fixed.c) (value c.args.t.now) c.cmp_const.ensures)

pub returns-in-Fixed-Ramp : goal.returns-in-Fixed-Ramp
returns-in-Fixed-Ramp c =
    let o = c.cmp_const-in-Fixed-Ramp.result in let t = value c.args.t.now in
    let turned : c.reverse.result ≡ ordering_reverse o = c.reverse.ensures in
    rw (c.in-Fixed-Ramp.is-0, c.in-Fixed-Ramp.is-1, turned)
    (reversed_order o (value_at (affine (line c.in-Fixed-Ramp.f)) t) (value_at (affine (constant (value c.in-Fixed-Ramp.c))) t)
    (line_to_constant o (line c.in-Fixed-Ramp.f) (value c.in-Fixed-Ramp.c) t c.cmp_const-in-Fixed-Ramp.ensures))

pub returns-in-Fixed-Fixed : goal.returns-in-Fixed-Fixed
returns-in-Fixed-Fixed c =
    rw (c.in-Fixed-Fixed.is-0, c.in-Fixed-Fixed.is-1)
    (constant_to_constant c.cmp.result (value c.in-Fixed-Fixed.c) (value c.in-Fixed-Fixed.d) (value c.args.t.now) c.cmp.ensures)
