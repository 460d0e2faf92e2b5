use Rattle.std.proofs.Common.{◌≡◌, ◌≤◌, ◌*ℤ◌, ◌-ℤ◌, ◌∙◌, nat_abs, to_z, of_z, ap, subst, sym, arith}
use Rattle.std.specs.Int.{w32}
use Rattle.atom_lines.proofs.GrowingSums.{above_fits, above_is, small_product, word32_is, word_read}
use Rattle.atom_lines.proofs.sum.above_limit.Goals as goal

pub product-requires : goal.product-requires
product-requires c =
    let h = c.requires.coef in
    let k = c.requires.value in
    record {
      coef = subst (λ z. nat_abs z ≤ 16) (sym (word_read c.args.coef (omega (arith, h)))) h;
      value = subst (λ z. nat_abs z ≤ 16777216) (sym (word_read c.args.value (omega (arith, k)))) k;
    }

pub overflow_sub-result : goal.overflow_sub-result
overflow_sub-result c =
    let l = c.requires.limit in
    above_fits c.product.result c.args.limit c.from.result c.product.ensures.small l (word32_is c.args.limit c.from.result l c.from.ensures)

pub returns-clause-value : goal.returns-clause-value
returns-clause-value c =
    let h = c.requires.coef in
    let k = c.requires.value in
    let l = c.requires.limit in
    let is : c.product.result ≡ c.args.coef *ℤ c.args.value =
    c.product.ensures.value ∙ ap (λ z. z *ℤ to_z w32 (of_z w32 c.args.value)) (word_read c.args.coef (omega (arith, h)))
    ∙ ap (λ z. c.args.coef *ℤ z) (word_read c.args.value (omega (arith, k))) in
    above_is c.product.result c.args.limit c.from.result c.product.ensures.small l (word32_is c.args.limit c.from.result l c.from.ensures)
    ∙ ap (λ z. z -ℤ c.args.limit) is

pub returns-clause-small : goal.returns-clause-small
returns-clause-small c = small_product c.args.coef c.args.value c.requires.coef c.requires.value
