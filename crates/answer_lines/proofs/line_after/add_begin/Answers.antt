use Rattle.std.proofs.Common.{take, drop, length-take, subst, arith}
use Rattle.std.specs.Prelude.{IfSome}
use Rattle.frac128.specs.Value.{value}
use Rattle.answer_lines.specs.Rooms.{IsTextAt}
use Rattle.answer_lines.proofs.RoomTexts.{text_before}
use Rattle.answer_lines.proofs.line_after.add_begin.Goals as goal

pub returns : goal.returns
returns c =
    let d = c.args.digits in
    let t = value c.args.t.now in
    let buf = c.args.buf.now in
    let text = c.in-Some.text in
    let here = subst (λ o. IfSome o (IsTextAt d t (take c.args.at buf))) c.in-Some.is c.requires.last in (
      take text.len (drop text.at buf),
      text_before d c.args.at t buf text here,
      omega (arith, length-take text.len (drop text.at buf), c.if-text-gt-SHORT.false),
      c.add_again.ensures,
    )
