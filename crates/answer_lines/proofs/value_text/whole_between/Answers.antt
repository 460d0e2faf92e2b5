use Rattle.std.proofs.Common.{sym, subst, rules, w64, SFits}
use Rattle.std.proofs.lemmas.Int.{to_z-of_z}
use Rattle.rational.specs.Rational.{◌≈◌, whole}
use Rattle.rational.specs.Line.{at}
use Rattle.rational.proofs.Order.{same_sym, same_trans}
use Rattle.frac128.specs.Value.{value}
use Rattle.frac128.specs.Line.{line}
use Rattle.answer_lines.proofs.value_text.whole_between.Goals as goal

pub returns : goal.returns
returns c =
    let fits : SFits w64 c.in_ok-n.n = search rules in
    subst (λ z. at (line c.args.f.now) (value c.args.t.now) ≈ whole z) (sym (to_z-of_z w64 c.in_ok-n.n fits))
    (same_trans (same_sym c.at.ensures.value) c.in_ok-n.ensures)
