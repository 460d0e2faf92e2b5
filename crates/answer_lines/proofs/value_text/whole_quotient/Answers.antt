use Rattle.std.proofs.Common.{◌≡◌, ◌*◌, ◌/◌, ◌<◌, arith, pos, sym, ◌∙◌, subst, rules, w64, SFits, to_z, of_z}
use mir.Syntax.{w128}
use Rattle.std.proofs.lemmas.Int.{ints, to_z-of_z}
use Rattle.std.proofs.lemmas.Nat.{div-add-mod'}
use Rattle.rational.specs.Rational.{◌≈◌, whole}
use Rattle.rational.proofs.Order.{same_trans}
use Rattle.frac128.specs.Ratios.{number}
use Rattle.answer_lines.proofs.Tops.{fraction_is, whole_is}
use Rattle.answer_lines.proofs.value_text.whole_quotient.Goals as goal

pub returns : goal.returns
returns c =
    let q = c.args.q.now in
    let negative = c.sized-negative.result.0 in
    let size = c.sized-negative.result.1 in
    let d = c.unsigned_abs-den.result in
    let some : 0 < d = omega (arith, ints, c.unsigned_abs-den.ensures.value, q.positive) in
    let same : q.den ≡ pos d = omega (arith, ints, c.unsigned_abs-den.ensures.value, q.positive) in
    let exact : size ≡ size / d * d = omega (arith, div-add-mod' size d) in
    let fits : SFits w64 c.with_sign.result = search rules in
    subst (λ z. number q ≈ whole z) (sym (to_z-of_z w64 c.with_sign.result fits ∙ c.with_sign.ensures))
    (same_trans
    (fraction_is q.num q.den negative size d some (let e : to_z w128 (of_z w128 q.num) ≡ q.num = omega (arith, ints) in sym e ∙ c.sized-negative.ensures.is)
    same)
    (whole_is negative size d (size / d) some exact))
