use Rattle.std.proofs.Common.{◌≡◌, ◌/◌, ◌^◌, arith, ap, ◌∙◌, sym, subst}
use Rattle.std.specs.Int.{IsGcd}
use Rattle.std.proofs.Math.Nat.{one-le-pow}
use Rattle.frac128.specs.Value.{value}
use Rattle.answer_lines.specs.Numbers.{IsInUnits}
use Rattle.answer_lines.proofs.Tops.{is_in_units, is_in_ticks}
use Rattle.answer_lines.proofs.number.in_units.Goals as goal

pub returns-then-digits-eq0 : goal.returns-then-digits-eq0
returns-then-digits-eq0 c =
    let t = c.args.t.now in
    let top = c.top-negative in
    subst (λ d. IsInUnits d (value t) top.result.0 top.result.1 c.from.result) (sym c.if-digits-eq0.true)
    (subst (λ n. IsInUnits 0 (value t) top.result.0 top.result.1 n) (sym (c.from.ensures ∙ c.den.ensures))
    (is_in_ticks (value t) top.result.0 top.result.1 t.den t.positive top.ensures.value top.ensures.lowest top.ensures.negative))

pub common_with-common-requires : goal.common_with-common-requires
common_with-common-requires c = omega (arith, one-le-pow c.from-2.result 10 (omega arith))

pub returns : goal.returns
returns c =
    let t = c.args.t.now in
    let tens : c.pow-tens.result ≡ 10 ^ c.args.digits = c.pow-tens.ensures ∙ ap (λ n. 10 ^ n) c.from-2.ensures in
    let common : IsGcd c.top-negative.result.1 (10 ^ c.args.digits) c.common_with-common.result =
    subst (λ n. IsGcd c.top-negative.result.1 n c.common_with-common.result) tens c.common_with-common.ensures.common in
    let den : c.from-3.result ≡ t.den = c.from-3.ensures ∙ c.den-2.ensures in
    let rest : c.from-4.result ≡ 10 ^ c.args.digits / c.common_with-common.result = c.from-4.ensures ∙ ap (λ n. n / c.common_with-common.result) tens in
    rw (c.quotient.ensures, den, rest)
    (is_in_units c.args.digits _ c.top-negative.result.0 c.top-negative.result.1 t.den c.common_with-common.result t.positive
    c.top-negative.ensures.value c.top-negative.ensures.lowest c.top-negative.ensures.negative common)
