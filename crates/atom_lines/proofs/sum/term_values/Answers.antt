use Rattle.std.proofs.Common.{◌≤◌, nat_abs, subst, sym, arith}
use Rattle.atom_lines.proofs.GrowingSums.{word_read}
use Rattle.atom_lines.proofs.sum.term_values.Goals as goal

pub product-next-requires : goal.product-next-requires
product-next-requires g c =
    let h = c.requires.coef in
    let k = c.cell.ensures.small in
    record {
      coef = subst (λ z. nat_abs z ≤ 16) (sym (word_read c.args.term.now.coef (omega (arith, h)))) h;
      value = subst (λ z. nat_abs z ≤ 16777216) (sym (word_read c.cell.result (omega (arith, k)))) k;
    }

pub product-requires : goal.product-requires
product-requires g c =
    let h = c.requires.coef in
    let k = c.cell-2.ensures.small in
    record {
      coef = subst (λ z. nat_abs z ≤ 16) (sym (word_read c.args.term.now.coef (omega (arith, h)))) h;
      value = subst (λ z. nat_abs z ≤ 16777216) (sym (word_read c.cell-2.result (omega (arith, k)))) k;
    }
