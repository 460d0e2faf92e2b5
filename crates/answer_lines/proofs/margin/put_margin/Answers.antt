use Rattle.std.proofs.Common.{◌≡◌, ℕ, List, codes, arith, refl, sym, subst}
use Rattle.rational.specs.Line.{at, constant}
use Rattle.rational.specs.Extended.{value_at}
use Rattle.value_laws.specs.declared.margin.Margin.{Margin}
use Rattle.value_laws.specs.declared.margin.Margin.TheVariants.{Low, High, Fixed, Ramp}
use Rattle.value_laws.specs.Margins.{margin_function}
use Rattle.frac128.specs.Value.{value}
use Rattle.frac128.specs.Line.{line}
use Rattle.frac128.specs.Ratios.{number}
use Rattle.rational.proofs.Order.{same_sym}
use Rattle.rational.proofs.Lines.{at_constant}
use Rattle.rational.specs.Time.{Rational}
use Rattle.stl_syntax.specs.Texts.{IsValueText}
use Rattle.answer_lines.specs.Before.{Puts}
use Rattle.answer_lines.proofs.TextsBefore.{put_as}
use Rattle.answer_lines.proofs.Spans.{number_text}
use Rattle.answer_lines.proofs.Tops.{units_same}
use Rattle.answer_lines.proofs.margin.put_margin.Goals as goal

-- of the margin that it is
of_margin : (digits : ℕ) (m k : Margin) (t : Rational) (old new : List ℕ) (end at : ℕ) → m ≡ k
    → Puts (IsValueText digits (value_at (margin_function k) t)) 82 old end new at
    → Puts (IsValueText digits (value_at (margin_function m) t)) 82 old end new at
of_margin digits m k t old new end at e = subst (λ x. Puts (IsValueText digits (value_at (margin_function x) t)) 82 old end new at) (sym e)

pub returns-in-Low : goal.returns-in-Low
returns-in-Low c =
    of_margin c.args.digits c.args.m.now Low (value c.args.at.now) c.args.buf.now c.put_word.new.buf c.args.end c.put_word.result c.in-Low.is
    (codes "-inf", refl, put_as refl (omega arith) c.put_word.ensures)

pub returns-in-High : goal.returns-in-High
returns-in-High c =
    of_margin c.args.digits c.args.m.now High (value c.args.at.now) c.args.buf.now c.put_word-in-High.new.buf c.args.end c.put_word-in-High.result c.in-High.is
    (codes "inf", refl, put_as refl (omega arith) c.put_word-in-High.ensures)

pub returns-in-Fixed : goal.returns-in-Fixed
returns-in-Fixed c =
    let n = c.in_units.result in
    let t = value c.args.at.now in
    let v = at (constant (value c.in-Fixed.c)) t in
    let units = units_same c.args.digits (value c.in-Fixed.c) v n.negative n.size n.den (same_sym (at_constant (value c.in-Fixed.c) t)) c.in_units.ensures in
    of_margin c.args.digits c.args.m.now (Fixed c.in-Fixed.c) t c.args.buf.now c.put_lowest.new.buf c.args.end c.put_lowest.result c.in-Fixed.is
    (_, number_text c.args.digits v n.negative n.size n.den units, c.put_lowest.ensures)

pub returns-in-Ramp : goal.returns-in-Ramp
returns-in-Ramp c =
    let n = c.quotient_in_units.result in
    let t = value c.args.at.now in
    let v = at (line c.in-Ramp.f) t in
    let units = units_same c.args.digits (number c.at.result) v n.negative n.size n.den c.at.ensures.value c.quotient_in_units.ensures in
    of_margin c.args.digits c.args.m.now (Ramp c.in-Ramp.f) t c.args.buf.now c.put_lowest-in-Ramp.new.buf c.args.end c.put_lowest-in-Ramp.result c.in-Ramp.is
    (_, number_text c.args.digits v n.negative n.size n.den units, c.put_lowest-in-Ramp.ensures)
