use Rattle.std.proofs.Common.{◌-◌, take, drop, length-take, arith, subst}
use Rattle.frac128.specs.Value.{value}
use Rattle.stl_syntax.specs.Texts.{IsNumberText}
use Rattle.answer_lines.proofs.KeptTexts.{number_of_same}
use Rattle.answer_lines.proofs.time_text.TimeText.put.Goals as goal

pub returns-then-is_one_time : goal.returns-then-is_one_time
returns-then-is_one_time c =
    let same = c.is_one_time.ensures c.if-is_one_time.true in
    let rest = drop c.self.inside.from c.self.inside.room in
    let kept = take (96 - c.self.inside.from) rest in (
      kept,
      subst (λ d. IsNumberText d (value c.args.t.now) kept) same.0
          (number_of_same c.self.inside.digits (value c.self.inside.time) (value c.args.t.now) kept same.1 c.self.invariant.2),
      omega (arith, c.self.invariant.1, length-take (96 - c.self.inside.from) rest),
      c.add_text.ensures,
    )
