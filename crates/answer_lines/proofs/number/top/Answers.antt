use Rattle.std.proofs.Common.{◌≡◌, ◌+◌, ◌-◌, ◌*◌, ◌<◌, ◌≤◌, pos, ◌+ℤ◌, ◌*ℤ◌, arith, subst, mul-le-mul_right}
use Rattle.std.proofs.lemmas.Int.{ints}
use Rattle.std.specs.Int.RustNames.{unsigned_abs}
use Rattle.rational.specs.Time.{IsLowest}
use Rattle.rational.proofs.Lowest.{lowest_add}
use Rattle.answer_lines.proofs.Tops.{mixed_below, sum_below, sum_above}
use Rattle.answer_lines.proofs.number.top.Goals as goal

-- the size and the rest make up the whole parts
parts_add : (c : goal.Then-whole-lt0)
    → (c.from.result * c.from-2.result - c.from-rest.result) + c.args.t.now.rest ≡ unsigned_abs c.args.t.now.whole * c.args.t.now.den
parts_add c =
    let t = c.args.t.now in
    let size : c.from.result ≡ unsigned_abs t.whole = omega (arith, ints, c.unsigned_abs.ensures.value) in
    let den : c.from-2.result ≡ t.den = omega arith in
    let some : 1 ≤ c.from.result = omega (arith, ints) in
    let enough : 1 * c.from-2.result ≤ c.from.result * c.from-2.result = mul-le-mul_right c.from-2.result some in
    let small : t.rest < t.den = t.below in
    let whole : c.from.result * c.from-2.result ≡ unsigned_abs t.whole * t.den = cc in
    omega arith

pub returns-then-whole-lt0-clause-value : goal.returns-then-whole-lt0-clause-value
returns-then-whole-lt0-clause-value c =
    let t = c.args.t.now in
    mixed_below t.whole t.rest t.den _ t.positive t.positive (omega (arith, ints)) (parts_add c)

pub returns-then-whole-lt0-clause-lowest : goal.returns-then-whole-lt0-clause-lowest
returns-then-whole-lt0-clause-lowest c =
    let t = c.args.t.now in
    subst (λ n. IsLowest n t.den) (sum_below t.whole t.rest t.den _ (omega (arith, ints)) (parts_add c)) (lowest_add t.whole t.rest t.den t.lowest)

pub returns-else-whole-lt0-clause-lowest : goal.returns-else-whole-lt0-clause-lowest
returns-else-whole-lt0-clause-lowest c =
    let t = c.args.t.now in
    let whole : c.from.result ≡ unsigned_abs t.whole = omega (arith, ints, c.unsigned_abs.ensures.value) in
    let den : c.from-2.result ≡ t.den = omega arith in
    let rest : c.from-rest.result ≡ t.rest = omega arith in
    let size : c.from.result * c.from-2.result + c.from-rest.result ≡ unsigned_abs t.whole * t.den + t.rest = cc in
    let e : t.whole *ℤ pos t.den +ℤ pos t.rest ≡ pos (c.from.result * c.from-2.result + c.from-rest.result) =
    sum_above t.whole t.rest t.den _ (omega (arith, ints)) size in
    subst (λ n. IsLowest n t.den) e (lowest_add t.whole t.rest t.den t.lowest)
