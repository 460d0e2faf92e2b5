use Rattle.frac128.specs.Value.{value}
use Rattle.frac128.specs.Line.{line}
use Rattle.std.proofs.Common.{◌^◌, lit≤, refl}
use Rattle.rational.specs.Line.{constant}
use Rattle.rational.specs.Extended.{affine}
use Rattle.rational.proofs.Mixed.{within_more}
use Rattle.value_laws.proofs.MarginLemmas.{bounded_constant, meeting_of_crossing, meeting_swap, constant_never_meets, infinite_never_meets}
use Rattle.value_laws.proofs.margin.MarginShape.cross.Goals as goal

pub meet_const-requires-clause-constant : goal.meet_const-requires-clause-constant
meet_const-requires-clause-constant c =
    let v = value c.in-Ramp-Fixed.c in
    within_more (2 ^ 31) (2 ^ 32) (lit≤ tt) (bounded_constant (2 ^ 31) v (let r = c.requires.second in rw c.in-Ramp-Fixed.is-1 at r))

pub meet_const-requires-in-Fixed-Ramp-clause-constant : goal.meet_const-requires-in-Fixed-Ramp-clause-constant
meet_const-requires-in-Fixed-Ramp-clause-constant c =
    let v = value c.in-Fixed-Ramp.c in
    within_more (2 ^ 31) (2 ^ 32) (lit≤ tt) (bounded_constant (2 ^ 31) v (let r = c.requires.first in rw c.in-Fixed-Ramp.is-0 at r))

pub returns-in-Ramp-Ramp-clause-time : goal.returns-in-Ramp-Ramp-clause-time
returns-in-Ramp-Ramp-clause-time c =
    rw (c.in-Ramp-Ramp.is-0, c.in-Ramp-Ramp.is-1)
    (meeting_of_crossing (line c.in-Ramp-Ramp.f) (line c.in-Ramp-Ramp.g) (value c.args.l.now) (value c.args.r.now) c.meet_ramp.result c.meet_ramp.ensures)

pub returns-in-Ramp-Fixed-clause-time : goal.returns-in-Ramp-Fixed-clause-time
returns-in-Ramp-Fixed-clause-time c =
    rw (c.in-Ramp-Fixed.is-0, c.in-Ramp-Fixed.is-1)
    (meeting_of_crossing (line c.in-Ramp-Fixed.f) (constant (value c.in-Ramp-Fixed.c)) (value c.args.l.now)
    (value c.args.r.now) c.meet_const.result c.meet_const.ensures)

pub returns-in-Fixed-Ramp-clause-time : goal.returns-in-Fixed-Ramp-clause-time
returns-in-Fixed-Ramp-clause-time c =
    let f = line c.in-Fixed-Ramp.f in let g = constant (value c.in-Fixed-Ramp.c) in
    rw (c.in-Fixed-Ramp.is-0, c.in-Fixed-Ramp.is-1)
    (meeting_swap (affine f) (affine g) (value c.args.l.now) (value c.args.r.now) c.meet_const-in-Fixed-Ramp.result
    (meeting_of_crossing f g (value c.args.l.now) (value c.args.r.now) c.meet_const-in-Fixed-Ramp.result c.meet_const-in-Fixed-Ramp.ensures))

pub returns-in_default-2 : goal.returns-in_default-2
returns-in_default-2 c = record {
  time = λ t m. constant_never_meets c.in_default.field-0-0 c.args.q.now (value c.args.l.now)
      (value c.args.r.now) t c.in_default.not-Ramp-1 (rw c.in_default.is-0 at m);
  wide = λ h. refl;
}

pub returns-in_default-3-clause-time : goal.returns-in_default-3-clause-time
returns-in_default-3-clause-time c = λ t m.
    infinite_never_meets c.args.p.now c.args.q.now (value c.args.l.now) (value c.args.r.now) t c.in_default.not-Fixed-0 c.in_default.not-Ramp-0 m
