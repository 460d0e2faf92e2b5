use Rattle.std.proofs.Common.{codes}
use Rattle.rational.specs.Line.{at, constant}
use Rattle.value_laws.specs.declared.margin.Margin.TheVariants.{Low, High, Fixed, Ramp}
use Rattle.frac128.specs.Value.{value}
use Rattle.frac128.specs.Line.{line}
use Rattle.frac128.specs.Ratios.{number}
use Rattle.rational.proofs.Order.{same_sym}
use Rattle.rational.proofs.Lines.{at_constant}
use Rattle.answer_lines.proofs.Tops.{units_same}
use Rattle.answer_lines.proofs.MarginTexts.{number_ok, number_err, value_ok, value_err, pushed_ok, pushed_err}
use Rattle.answer_lines.proofs.margin.put_value.Goals as goal

pub returns-in-Low-clause-ok : goal.returns-in-Low-clause-ok
returns-in-Low-clause-ok c =
    value_ok c.push.result c.args.digits c.args.m.now Low (value c.args.at.now) c.args.text.now c.push.new.self c.in-Low.is
    (pushed_ok c.push.result (codes "-inf") c.args.text.now c.push.new.self c.push.ensures.ok)

pub returns-in-Low-clause-err : goal.returns-in-Low-clause-err
returns-in-Low-clause-err c =
    value_err c.push.result c.args.digits c.args.m.now Low (value c.args.at.now) c.args.text.now c.push.new.self c.in-Low.is
    (pushed_err c.push.result (codes "-inf") c.args.text.now c.push.new.self c.push.ensures.err)

pub returns-in-High-clause-ok : goal.returns-in-High-clause-ok
returns-in-High-clause-ok c =
    value_ok c.push-in-High.result c.args.digits c.args.m.now High (value c.args.at.now) c.args.text.now c.push-in-High.new.self c.in-High.is
    (pushed_ok c.push-in-High.result (codes "inf") c.args.text.now c.push-in-High.new.self c.push-in-High.ensures.ok)

pub returns-in-High-clause-err : goal.returns-in-High-clause-err
returns-in-High-clause-err c =
    value_err c.push-in-High.result c.args.digits c.args.m.now High (value c.args.at.now) c.args.text.now c.push-in-High.new.self c.in-High.is
    (pushed_err c.push-in-High.result (codes "inf") c.args.text.now c.push-in-High.new.self c.push-in-High.ensures.err)

pub returns-in-Fixed-clause-ok : goal.returns-in-Fixed-clause-ok
returns-in-Fixed-clause-ok c =
    value_ok c.put_fraction.result c.args.digits c.args.m.now (Fixed c.in-Fixed.c) (value c.args.at.now) c.args.text.now c.put_fraction.new.text c.in-Fixed.is
    (number_ok c.put_fraction.result c.args.digits
    (at (constant (value c.in-Fixed.c)) (value c.args.at.now)) c.in_units.result c.args.text.now c.put_fraction.new.text
    (units_same c.args.digits (value c.in-Fixed.c) (at (constant (value c.in-Fixed.c)) (value c.args.at.now)) c.in_units.result.negative
    c.in_units.result.size c.in_units.result.den (same_sym (at_constant (value c.in-Fixed.c) (value c.args.at.now))) c.in_units.ensures)
    c.put_fraction.ensures.ok)

pub returns-in-Fixed-clause-err : goal.returns-in-Fixed-clause-err
returns-in-Fixed-clause-err c =
    value_err c.put_fraction.result c.args.digits c.args.m.now (Fixed c.in-Fixed.c) (value c.args.at.now) c.args.text.now c.put_fraction.new.text c.in-Fixed.is
    (number_err c.put_fraction.result c.args.digits
    (at (constant (value c.in-Fixed.c)) (value c.args.at.now)) c.in_units.result c.args.text.now c.put_fraction.new.text
    (units_same c.args.digits (value c.in-Fixed.c) (at (constant (value c.in-Fixed.c)) (value c.args.at.now)) c.in_units.result.negative
    c.in_units.result.size c.in_units.result.den (same_sym (at_constant (value c.in-Fixed.c) (value c.args.at.now))) c.in_units.ensures)
    c.put_fraction.ensures.err)

pub returns-in-Ramp-clause-ok : goal.returns-in-Ramp-clause-ok
returns-in-Ramp-clause-ok c =
    let n = c.quotient_in_units.result in
    let v = at (line c.in-Ramp.f) (value c.args.at.now) in
    let units = units_same c.args.digits (number c.at.result) v n.negative n.size n.den c.at.ensures.value c.quotient_in_units.ensures in
    value_ok c.put_fraction-in-Ramp.result c.args.digits c.args.m.now (Ramp c.in-Ramp.f)
    (value c.args.at.now) c.args.text.now c.put_fraction-in-Ramp.new.text c.in-Ramp.is
    (number_ok c.put_fraction-in-Ramp.result c.args.digits v n c.args.text.now c.put_fraction-in-Ramp.new.text units c.put_fraction-in-Ramp.ensures.ok)

pub returns-in-Ramp-clause-err : goal.returns-in-Ramp-clause-err
returns-in-Ramp-clause-err c =
    let n = c.quotient_in_units.result in
    let v = at (line c.in-Ramp.f) (value c.args.at.now) in
    let units = units_same c.args.digits (number c.at.result) v n.negative n.size n.den c.at.ensures.value c.quotient_in_units.ensures in
    value_err c.put_fraction-in-Ramp.result c.args.digits c.args.m.now (Ramp c.in-Ramp.f)
    (value c.args.at.now) c.args.text.now c.put_fraction-in-Ramp.new.text c.in-Ramp.is
    (number_err c.put_fraction-in-Ramp.result c.args.digits v n c.args.text.now c.put_fraction-in-Ramp.new.text units c.put_fraction-in-Ramp.ensures.err)
