use Rattle.std.proofs.Common.{◌≡◌, ◌≤◌, ◌^◌, ◌∙◌, ap, sym, subst, nat_abs, to_z, of_z, arith}
use Rattle.std.specs.Int.{w64}
use Rattle.rational.specs.Rational.{whole}
use Rattle.rational.specs.Extended.{finite, value_at}
use Rattle.rational.proofs.AffineLemmas.{bounded_same}
use Rattle.rational.proofs.Mixed.{within_whole}
use Rattle.value_laws.specs.Margins.{margin_function}
use Rattle.stl_syntax.specs.Trace.{Trace}
use Rattle.stl_syntax.specs.SupInf.{margin}
use Rattle.atom_lines.specs.How.{by_margin}
use Rattle.atom_lines.specs.Rows.{values_at}
use Rattle.atom_lines.specs.Sums.{reach}
use Rattle.atom_lines.proofs.GrowingSums.{reach_small, read_back}
use Rattle.atom_lines.proofs.ValueLimits.{worth_bounded}
use Rattle.atom_lines.proofs.MarginWayLemmas.{margin_is, sum_at}
use Rattle.atom_lines.proofs.margin_way.margin_standing.Goals.{After-margin_at}
use Rattle.atom_lines.proofs.margin_way.margin_standing.Goals as goal

-- the sum at the row, and its size
sum_is : (c : After-margin_at) → c.reach_of.result ≡ reach c.atom-atom.result.now (values_at c.args.trace.now c.args.r) (values_at c.args.trace.now c.args.r)
sum_is c =
    let x = c.row_at-row.result in
    c.reach_of.ensures.value ∙ ap (λ xs. reach c.atom-atom.result.now xs xs)
    (ap (λ (t : Trace). values_at t x.row) c.row_at-row.ensures.trace ∙ ap (λ n. values_at c.args.trace.now n) c.row_at-row.ensures.row)

size : (c : After-margin_at) → nat_abs c.reach_of.result ≤ 2 ^ 31
size c =
    let x = c.row_at-row.result in
    subst (λ m. nat_abs m ≤ 2 ^ 31) (sym c.reach_of.ensures.value)
    (reach_small c.atom-atom.result.now (values_at x.trace.now x.row) (values_at x.trace.now x.row) c.atom-atom.ensures.sound.limit c.reach_of.ensures.small)

pub returns-clause-margin : goal.returns-clause-margin
returns-clause-margin c = λ a tr t for has e.
    let d = (goal.at.returns-clause-margin c).After-margin_at in
    let k = c.atom-atom.result.now in
    let f = margin_function c.margin_at.result in
    let n = c.reach_of.result in
    let read : to_z w64 (of_z w64 n) ≡ n = read_back n (let h = size d in omega (arith, h)) in
    margin_is c.args.bound.now c.args.node k c.atom-atom.ensures.at a tr c.args.trace.now for has t (whole (to_z w64 (of_z w64 n))) (value_at f t)
    (sum_at c.args.bound.now c.args.node k c.atom-atom.ensures.at a tr c.args.trace.now for has c.args.r (to_z w64 (of_z w64 n)) t c.requires.within
    (read ∙ sum_is d) e)
    (c.margin_at.ensures.worth t)

pub returns-clause-within : goal.returns-clause-within
returns-clause-within c = λ t.
    let d = (goal.at.returns-clause-within c).After-margin_at in
    let k = c.atom-atom.result.now in
    let f = margin_function c.margin_at.result in
    let n = c.reach_of.result in
    let read : to_z w64 (of_z w64 n) ≡ n = read_back n (let h = size d in omega (arith, h)) in
    bounded_same (2 ^ 31) (value_at f t) (finite (margin k.rel (whole (to_z w64 (of_z w64 n))))) (c.margin_at.ensures.worth t)
    (worth_bounded by_margin k.rel (whole (to_z w64 (of_z w64 n)))
    (within_whole (2 ^ 31) (to_z w64 (of_z w64 n)) (subst (λ m. nat_abs m ≤ 2 ^ 31) (sym read) (size d))))
