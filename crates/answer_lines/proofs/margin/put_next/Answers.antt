use Rattle.std.proofs.Common.{◌++◌, append_assoc, ap, ◌∙◌, sym}
use Rattle.answer_lines.proofs.margin.put_next.Goals as goal

pub returns-clause-ok : goal.returns-clause-ok
returns-clause-ok c =
    let (next, is, e) = c.put_lines.ensures in (
      next,
      is,
      ap (λ w. c.make_room.new.text ++ w) e ∙ (sym (append_assoc c.make_room.new.text c.make_room.new.self next)
          ∙ ap (λ w. w ++ next) c.in_ok-make_room.ensures.joined),
    )
