use Rattle.std.proofs.Common.{◌≡◌, ◌∙◌, ◌≤◌, ◌^◌, ap, sym, nat_abs, to_z, of_z, subst, arith}
use Rattle.std.specs.Int.{w64}
use Rattle.rational.specs.Rational.{whole}
use Rattle.stl_syntax.specs.Trace.{Trace}
use Rattle.stl_syntax.specs.Truth.{compares}
use Rattle.atom_lines.specs.Rows.{row_of, values_at}
use Rattle.atom_lines.specs.Sums.{reach}
use Rattle.atom_lines.proofs.GrowingSums.{reach_small, read_back}
use Rattle.atom_lines.proofs.Signs.{compare_same}
use Rattle.atom_lines.proofs.SumLemmas.{atom_binding, expression_at_row}
use Rattle.atom_lines.proofs.way.truth_at_row.Goals as goal

pub returns : goal.returns
returns c = λ a tr t for has e.
    let b = c.args.bound.now in
    let block = c.args.trace.now in
    let k = c.atom-atom.result.now in
    let x = c.row_at-row.result in
    let n = c.reach_of.result in
    let r = row_of block c.args.r in
    let here : values_at x.trace.now x.row ≡ values_at block c.args.r =
    ap (λ (t : Trace). values_at t x.row) c.row_at-row.ensures.trace ∙ ap (λ n. values_at block n) c.row_at-row.ensures.row in
    let sum : n ≡ reach k r.values r.values = c.reach_of.ensures.value ∙ ap (λ xs. reach k xs xs) here in
    let size : nat_abs n ≤ 2 ^ 31 = subst (λ m. nat_abs m ≤ 2 ^ 31) (sym c.reach_of.ensures.value)
    (reach_small k (values_at x.trace.now x.row) (values_at x.trace.now x.row) c.atom-atom.ensures.sound.limit c.reach_of.ensures.small) in
    let read : to_z w64 (of_z w64 n) ≡ n = read_back n (omega (arith, size)) in
    let rel = (atom_binding b c.args.node k c.atom-atom.ensures.at a tr for).rel in
    compare_same a.rel (expression_at_row b c.args.node k c.atom-atom.ensures.at a tr for r t has e)
    ∙ ap (λ q. compares q (whole (reach k r.values r.values))) (sym rel)
    ∙ ap (λ m. compares k.rel (whole m)) (sym sum)
    ∙ sym (ap (λ m. compares k.rel (whole m)) read) ∙ sym c.truth_at.ensures
