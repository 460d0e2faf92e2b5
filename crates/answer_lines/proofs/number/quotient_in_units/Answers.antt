use Rattle.std.proofs.Common.{◌≡◌, ◌*◌, ◌^◌, ◌<◌, arith, ap, ◌∙◌, subst, mul-pos, pos, sym, to_z, of_z}
use mir.Syntax.{w128}
use Rattle.std.specs.Int.{IsGcd}
use Rattle.std.proofs.Math.Nat.{one-le-pow}
use Rattle.std.proofs.lemmas.Int.{ints}
use Rattle.rational.proofs.Lowest.{gcd_pos}
use Rattle.answer_lines.proofs.Tops.{quotient_units, fraction_is}
use Rattle.answer_lines.proofs.number.quotient_in_units.Goals as goal
use Rattle.answer_lines.proofs.number.quotient_in_units.Goals.{After-from-2}

tens_is : (c : After-from-2) → c.from-2.result ≡ 10 ^ c.args.digits
tens_is c = c.from-2.ensures ∙ c.pow-tens.ensures ∙ ap (λ n. 10 ^ n) c.from.ensures

den_pos : (c : After-from-2) → 0 < c.unsigned_abs.result
den_pos c = omega (arith, ints, c.unsigned_abs.ensures.value, c.args.q.now.positive)

den_same : (c : After-from-2) → c.args.q.now.den ≡ pos c.unsigned_abs.result
den_same c = omega (arith, ints, c.unsigned_abs.ensures.value, c.args.q.now.positive)

pub nonzero_div-result : goal.nonzero_div-result
nonzero_div-result c =
    let d = (goal.at.nonzero_div-result c).After-from-2 in
    gcd_pos c.sized-negative.result.1 (c.unsigned_abs.result * c.from-2.result) c.gcd_of_wide-common.result
    (mul-pos (den_pos d) (subst (λ n. 0 < n) (sym (tens_is d)) (one-le-pow c.args.digits 10 (omega arith)))) c.gcd_of_wide-common.ensures

pub nonzero_div-result-2 : goal.nonzero_div-result-2
nonzero_div-result-2 c =
    let d = (goal.at.nonzero_div-result-2 c).After-from-2 in
    gcd_pos c.sized-negative.result.1 (c.unsigned_abs.result * c.from-2.result) c.gcd_of_wide-common.result
    (mul-pos (den_pos d) (subst (λ n. 0 < n) (sym (tens_is d)) (one-le-pow c.args.digits 10 (omega arith)))) c.gcd_of_wide-common.ensures

pub small_quotient-requires : goal.small_quotient-requires
small_quotient-requires c =
    let d = (goal.at.small_quotient-requires c).After-from-2 in
    mul-pos (den_pos d) (subst (λ n. 0 < n) (sym (tens_is d)) (one-le-pow c.args.digits 10 (omega arith)))

pub returns-then-den : goal.returns-then-den
returns-then-den c =
    let d = (goal.at.returns-then-den c).After-from-2 in
    let q = c.args.q.now in
    let (common, is, n, s, e) = c.small_quotient.ensures in
    rw (n, s, e, tens_is d)
    (quotient_units c.args.digits _ c.sized-negative.result.0 c.sized-negative.result.1 c.unsigned_abs.result common (den_pos d)
    (fraction_is q.num q.den c.sized-negative.result.0 c.sized-negative.result.1 c.unsigned_abs.result (den_pos d)
    (let e : to_z w128 (of_z w128 q.num) ≡ q.num = omega (arith, ints) in sym e ∙ c.sized-negative.ensures.is) (den_same d))
    c.sized-negative.ensures.negative
    (subst (λ n. IsGcd c.sized-negative.result.1 (c.unsigned_abs.result * n) common) (tens_is d) is))

pub returns : goal.returns
returns c =
    let d = (goal.at.returns c).After-from-2 in
    let q = c.args.q.now in
    rw (tens_is d)
    (quotient_units c.args.digits _ c.sized-negative.result.0 c.sized-negative.result.1 c.unsigned_abs.result c.gcd_of_wide-common.result (den_pos d)
    (fraction_is q.num q.den c.sized-negative.result.0 c.sized-negative.result.1 c.unsigned_abs.result (den_pos d)
    (let e : to_z w128 (of_z w128 q.num) ≡ q.num = omega (arith, ints) in sym e ∙ c.sized-negative.ensures.is) (den_same d))
    c.sized-negative.ensures.negative
    (subst (λ n. IsGcd c.sized-negative.result.1 (c.unsigned_abs.result * n) c.gcd_of_wide-common.result) (tens_is d) c.gcd_of_wide-common.ensures))
