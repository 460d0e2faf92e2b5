use Rattle.std.proofs.Common.{◌≤◌, ◌^◌, nat_abs, subst, sym, arith}
use Rattle.atom_lines.proofs.GrowingSums.{product_fits, product_is, small_product, word32_is}
use Rattle.atom_lines.proofs.sum.product.Goals as goal

pub overflow_mul-result : goal.overflow_mul-result
overflow_mul-result c =
    let h = c.requires.coef in
    let k = c.requires.value in
    product_fits c.args.coef c.args.value c.from.result c.from-2.result h k
    (word32_is c.args.coef c.from.result (omega (arith, h)) c.from.ensures)
    (word32_is c.args.value c.from-2.result (omega (arith, k)) c.from-2.ensures)

pub returns-clause-value : goal.returns-clause-value
returns-clause-value c =
    let h = c.requires.coef in
    let k = c.requires.value in
    product_is c.args.coef c.args.value c.from.result c.from-2.result h k
    (word32_is c.args.coef c.from.result (omega (arith, h)) c.from.ensures)
    (word32_is c.args.value c.from-2.result (omega (arith, k)) c.from-2.ensures)

pub returns-clause-small : goal.returns-clause-small
returns-clause-small c =
    let h = c.requires.coef in
    let k = c.requires.value in
    subst (λ z. nat_abs z ≤ 2 ^ 28) (sym (product_is c.args.coef c.args.value c.from.result c.from-2.result h k
    (word32_is c.args.coef c.from.result (omega (arith, h)) c.from.ensures)
    (word32_is c.args.value c.from-2.result (omega (arith, k)) c.from-2.ensures)))
    (small_product c.args.coef c.args.value h k)
