use Rattle.std.proofs.Common.{◌++◌, decimal, append_assoc, arith, sym, ◌∙◌}
use Rattle.std.proofs.lemmas.Grind.{common_steps}
use Rattle.answer_lines.proofs.Fractions.{sign_text, den_text, fraction_parts}
use Rattle.answer_lines.proofs.Parts.{part_of}
use Rattle.answer_lines.proofs.number.put_fraction.Goals as goal

pub returns-in_err-put_digits-clause-err : goal.returns-in_err-put_digits-clause-err
returns-in_err-put_digits-clause-err c =
    let n = c.args.n.now in
    part_of _ _ _ _ (sign_text n.negative) (decimal n.size ++ den_text n.den)
    (sym (append_assoc (sign_text n.negative) (decimal n.size) (den_text n.den)) ∙ fraction_parts n.negative n.size n.den c.requires)
    (grind (arith, common_steps))

pub returns-in_err-push-clause-err : goal.returns-in_err-push-clause-err
returns-in_err-push-clause-err c =
    let n = c.args.n.now in
    part_of _ _ _ _ (sign_text n.negative ++ decimal n.size) (den_text n.den) (fraction_parts n.negative n.size n.den c.requires) (grind (arith, common_steps))
