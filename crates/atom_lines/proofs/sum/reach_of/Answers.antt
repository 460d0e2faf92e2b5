use Rattle.std.proofs.Common.{rules, ◌≡◌, ◌<◌, ◌≤◌, ◌^◌, ◌+ℤ◌, ◌*ℤ◌, List, pos, false, length, get_or, subst, sym, nat_abs, to_z, of_z}
use Rattle.std.specs.Int.{w64}
use Rattle.std.proofs.lemmas.Int.{to_z-of_z}
use Rattle.atom_lines.specs.declared.bound_atom.BoundTerm.{BoundTerm}
use Rattle.atom_lines.specs.Sums.{sum_over, cell}
use Rattle.atom_lines.proofs.GrowingSums.{add_term, size_more, sum_fits, less_fits, whole_sum, whole_small, reach_read, limit_read}
use Rattle.atom_lines.proofs.sum.reach_of.Goals as goal

pub loop-term-preserved : goal.loop-term-preserved
loop-term-preserved g c =
    let terms = c.args.atom.now.terms.items in
    let first = g.C.Cells.values c.args.first.now in
    let second = g.C.Cells.values c.args.second.now in
    let d : BoundTerm = record { coef = pos 0; column = 0; step = false } in
    let sum = to_z w64 c.loop-term.sum-bits in
    let next = to_z w64 (of_z w64 (sum +ℤ to_z w64 (of_z w64 c.term_value-sum.result))) in
    let more : next ≡ sum +ℤ c.term_value-sum.result = search (rules, to_z-of_z) in
    let within : c.loop-term.term-index < length terms =
    subst (λ xs. c.loop-term.term-index < length xs) c.deref-term-items.ensures.value c.loop-term-test.true in
    let value : c.term_value-sum.result ≡ (get_or terms c.loop-term.term-index d).coef *ℤ cell (get_or terms c.loop-term.term-index d) first second =
    subst (λ (xs : List BoundTerm).
    c.term_value-sum.result ≡ (get_or xs c.loop-term.term-index d).coef *ℤ cell (get_or xs c.loop-term.term-index d) first second)
    c.deref-term-items.ensures.value c.term_value-sum.ensures.value in
    record {
      sum = add_term terms c.loop-term.term-index d first second sum (sum_over terms first second) within value c.loop-term.invariant.sum more;
      small = size_more sum c.term_value-sum.result next c.loop-term.term-index 268435456 c.loop-term.invariant.small c.term_value-sum.ensures.small more;
    }

pub overflow_add-sum : goal.overflow_add-sum
overflow_add-sum g c =
    let within : c.loop-term.term-index < length c.args.atom.now.terms.items =
    subst (λ xs. c.loop-term.term-index < length xs) c.deref-term-items.ensures.value c.loop-term-test.true in
    sum_fits (to_z w64 c.loop-term.sum-bits) c.term_value-sum.result c.loop-term.term-index (length c.args.atom.now.terms.items)
    c.loop-term.invariant.small within c.requires.sound.few c.term_value-sum.ensures.small

pub overflow_sub-result : goal.overflow_sub-result
overflow_sub-result g c =
    less_fits (to_z w64 c.loop-term.sum-bits) c.from.result c.loop-term.term-index (length c.args.atom.now.terms.items) c.loop-term.invariant.small
    (subst (λ xs. c.loop-term.term-index ≤ length xs) c.deref-term-items.ensures.value c.loop-term.auto.term-index-end) c.requires.sound.few
    (subst (λ z. nat_abs z ≤ 2 ^ 30) (sym (limit_read c.from.result c.args.atom.now.limit c.requires.sound.limit c.from.ensures))
    c.requires.sound.limit)

pub returns-clause-value : goal.returns-clause-value
returns-clause-value g c =
    let terms = c.args.atom.now.terms.items in
    let first = g.C.Cells.values c.args.first.now in
    let second = g.C.Cells.values c.args.second.now in
    let i = c.loop-term.term-index in
    let past : length terms ≤ i = subst (λ xs. length xs ≤ i) c.deref-term-items.ensures.value c.loop-term-test.false in
    let within : i ≤ length terms = subst (λ xs. i ≤ length xs) c.deref-term-items.ensures.value c.loop-term.auto.term-index-end in
    reach_read c.args.atom.now first second (to_z w64 c.loop-term.sum-bits) c.from.result i c.loop-term.invariant.small within c.requires.sound.few
    c.requires.sound.limit (limit_read c.from.result c.args.atom.now.limit c.requires.sound.limit c.from.ensures)
    (whole_sum terms first second (to_z w64 c.loop-term.sum-bits) i past c.loop-term.invariant.sum)

pub returns-clause-small : goal.returns-clause-small
returns-clause-small g c =
    let terms = c.args.atom.now.terms.items in
    let first = g.C.Cells.values c.args.first.now in
    let second = g.C.Cells.values c.args.second.now in
    let i = c.loop-term.term-index in
    let past : length terms ≤ i = subst (λ xs. length xs ≤ i) c.deref-term-items.ensures.value c.loop-term-test.false in
    let within : i ≤ length terms = subst (λ xs. i ≤ length xs) c.deref-term-items.ensures.value c.loop-term.auto.term-index-end in
    whole_small (to_z w64 c.loop-term.sum-bits) (sum_over terms first second) i (length terms) c.loop-term.invariant.small within c.requires.sound.few
    (whole_sum terms first second (to_z w64 c.loop-term.sum-bits) i past c.loop-term.invariant.sum)
