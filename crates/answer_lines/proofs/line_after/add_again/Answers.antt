use Rattle.std.proofs.Common.{◌+◌, ◌-◌, ◌∙◌, ap, take, drop, arith}
use Rattle.std.proofs.lemmas.List.{take-take}
use Rattle.answer_lines.proofs.TextsBehind.{add_as}
use Rattle.answer_lines.proofs.line_after.add_again.Goals as goal

pub returns : goal.returns
returns c =
    let text = c.args.text in
    let rest = drop text.at c.args.buf.now in
    let same = ap (take text.len) c.copy_from_slice.ensures.after ∙ take-take text.len (text.at + 32 - text.at) rest (omega (arith, c.requires.short)) in
    add_as same c.add_part.ensures
