use Rattle.std.proofs.Common.{◌++◌, append_assoc, ap, ◌∙◌, sym}
use Rattle.answer_lines.specs.declared.verdict_lines.Made.{Made}
use Rattle.answer_lines.proofs.verdict_lines.VerdictLines.put.Goals as goal

pub returns-clause-ok : goal.returns-clause-ok
returns-clause-ok c =
    let (line, is, e) = c.put_verdict.ensures.grew in
    let old = c.args.text.now in
    let text = c.make_room.new.text in (
      line,
      is,
      ap (λ w. text ++ w) e ∙ (sym (append_assoc text c.make_room.new.self line) ∙ ap (λ w. w ++ line)
          (c.in_ok-make_room.ensures.joined ∙ ap (λ (m : Made). old ++ m.lines) c.deref_mut-made.ensures.value ∙ ap (λ l. old ++ l) c.self.view_is)),
    )
