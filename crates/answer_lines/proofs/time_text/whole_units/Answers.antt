use Rattle.std.proofs.Common.{◌≡◌, pos, sym, ◌∙◌, subst, arith, decimal}
use Rattle.std.proofs.lemmas.Int.{ints}
use Rattle.frac128.specs.Value.{value}
use Rattle.stl_syntax.specs.Texts.{IsNumberText}
use Rattle.answer_lines.proofs.KeptTexts.{whole_text}
use Rattle.answer_lines.proofs.time_text.whole_units.Goals as goal

pub returns : goal.returns
returns c =
    let t = c.args.t.now in
    let n = c.unsigned_abs.result in
    let whole : t.whole ≡ pos c.unsigned_abs.result = omega (arith, ints, c.unsigned_abs.ensures.value) in
    subst (λ d. IsNumberText d (value t) (decimal n)) (sym c.if-digits-ne0.false)
    (whole_text t.whole t.rest t.den t.positive n whole t.below (sym c.den.ensures ∙ c.if-den-ne1.false))
