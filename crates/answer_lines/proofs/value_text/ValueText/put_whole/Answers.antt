use Rattle.std.proofs.Common.{◌-◌, take, drop, length-take, arith, sym, subst, w64}
use Rattle.std.proofs.lemmas.Int.{to_z-of_z}
use Rattle.rational.specs.Rational.{◌≈◌, whole}
use Rattle.frac128.specs.Value.{value}
use Rattle.stl_syntax.specs.Texts.{IsNumberText, IsValueText}
use Rattle.answer_lines.specs.Before.{Puts}
use Rattle.answer_lines.specs.Shown.{shown_value}
use Rattle.answer_lines.proofs.TextsBehind.{made_added}
use Rattle.answer_lines.proofs.KeptTexts.{number_of_same, stands}
use Rattle.answer_lines.proofs.Spans.{number_text}
use Rattle.answer_lines.proofs.value_text.ValueText.put_whole.Goals as goal
use Rattle.answer_lines.proofs.value_text.ValueText.put_whole.Goals.{After-put_lowest-from}

pub returns-then-is_whole : goal.returns-then-is_whole
returns-then-is_whole c =
    let same = c.is_whole.ensures c.if-is_whole.true in
    let rest = drop c.self.inside.from c.self.inside.room in
    let kept = take (96 - c.self.inside.from) rest in (
      kept,
      subst (λ z. IsNumberText c.args.digits (whole z) kept) (to_z-of_z w64 c.args.n c.ranges.n)
          (subst (λ v. IsValueText c.args.digits v kept) same.1
          (subst (λ d. IsValueText d (shown_value c.self.inside.shown) kept) same.0 c.self.invariant.2)),
      omega (arith, c.self.invariant.1, length-take (96 - c.self.inside.from) rest),
      c.add_text.ensures,
    )

-- the text was made in its room
made : (c : After-put_lowest-from)
    → Puts (IsNumberText c.args.digits (whole c.args.n)) 82 c.self.inside.room 96 c.put_lowest-from.new.buf c.put_lowest-from.result
made c =
    let u = c.in_units.result in (
      _,
      number_of_same c.args.digits (value c.of.result) (whole c.args.n) _
          (subst (λ z. value c.of.result ≈ whole z) (to_z-of_z w64 c.args.n c.ranges.n) c.of.ensures.value)
          (number_text c.args.digits (value c.of.result) u.negative u.size u.den c.in_units.ensures),
      c.put_lowest-from.ensures,
    )

pub invariant_of-self : goal.invariant_of-self
invariant_of-self c =
    let (T, is, put) = made (goal.at.invariant_of-self c).After-put_lowest-from in
    let text = take (96 - c.put_lowest-from.result) (drop c.put_lowest-from.result c.put_lowest-from.new.buf) in (
      put.inside,
      omega (arith, put.few),
      subst (λ z. IsNumberText c.args.digits (whole z) text) (sym (to_z-of_z w64 c.args.n c.ranges.n))
          (subst (IsNumberText c.args.digits (whole c.args.n)) (sym (stands put (omega arith))) is),
    )

pub returns : goal.returns
returns c =
    made_added (IsNumberText c.args.digits (whole c.args.n)) (made (goal.at.returns c).After-put_lowest-from) (omega arith) c.add_text-2.ensures
