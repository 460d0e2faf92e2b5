use Rattle.std.proofs.Common.{◌-◌, take, drop, length-take, arith, sym, subst}
use Rattle.rational.specs.Extended.{value_at}
use Rattle.frac128.specs.Value.{value}
use Rattle.value_laws.specs.Margins.{margin_function}
use Rattle.stl_syntax.specs.Texts.{IsValueText}
use Rattle.answer_lines.specs.Shown.{shown_value}
use Rattle.answer_lines.proofs.TextsBehind.{made_added}
use Rattle.answer_lines.proofs.KeptTexts.{value_of_same, stands}
use Rattle.answer_lines.proofs.value_text.ValueText.put_at.Goals as goal

pub returns-then-is_at : goal.returns-then-is_at
returns-then-is_at c =
    let same = c.is_at.ensures c.if-is_at.true in
    let rest = drop c.self.inside.from c.self.inside.room in
    let kept = take (96 - c.self.inside.from) rest in
    let now = value_at (margin_function c.args.m.now) (value c.args.t.now) in (
      kept,
      subst (λ d. IsValueText d now kept) same.0
          (value_of_same c.self.inside.digits (shown_value c.self.inside.shown) now kept same.1 c.self.invariant.2),
      omega (arith, c.self.invariant.1, length-take (96 - c.self.inside.from) rest),
      c.add_text.ensures,
    )

pub invariant_of-self : goal.invariant_of-self
invariant_of-self c =
    let (T, is, put) = c.put_margin-from.ensures in (
      put.inside,
      omega (arith, put.few),
      subst (IsValueText c.args.digits (value_at (margin_function c.args.m.now) (value c.args.t.now))) (sym (stands put (omega arith))) is,
    )

pub returns : goal.returns
returns c =
    made_added (IsValueText c.args.digits (value_at (margin_function c.args.m.now) (value c.args.t.now))) c.put_margin-from.ensures (omega arith)
    c.add_text-2.ensures
