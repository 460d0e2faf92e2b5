use Rattle.std.proofs.Common.{subst, rules, w64, SFits}
use Rattle.std.proofs.lemmas.Int.{to_z-of_z}
use Rattle.rational.specs.Rational.{whole}
use Rattle.rational.specs.Extended.{finite, value_at}
use Rattle.rational.proofs.AffineLemmas.{same_symᵉ}
use Rattle.frac128.specs.Value.{value}
use Rattle.value_laws.specs.Margins.{margin_function}
use Rattle.stl_syntax.specs.Texts.{IsNumberText}
use Rattle.answer_lines.proofs.KeptTexts.{value_of_same}
use Rattle.answer_lines.proofs.value_text.ValueText.put.Goals as goal

pub returns-in-Some : goal.returns-in-Some
returns-in-Some c =
    let (text, is, few, added) = c.put_whole.ensures in
    let n = c.in-Some.n in
    let fits : SFits w64 n = search rules in
    let v = value_at (margin_function c.args.m.now) (value c.args.t.now) in (
      text,
      value_of_same c.args.digits (finite (whole n)) v text (same_symᵉ v (finite (whole n)) c.in-Some.ensures)
          (subst (λ z. IsNumberText c.args.digits (whole z) text) (to_z-of_z w64 n fits) is),
      few,
      added,
    )
