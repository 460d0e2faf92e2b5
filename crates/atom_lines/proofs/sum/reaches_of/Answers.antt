use Rattle.std.proofs.Common.{rules, ◌≡◌, ◌<◌, ◌≤◌, ◌^◌, ◌+ℤ◌, ◌*ℤ◌, List, pos, false, length, get_or, subst, sym, nat_abs, to_z, of_z}
use Rattle.std.specs.Int.{w64}
use Rattle.std.proofs.lemmas.Int.{to_z-of_z}
use Rattle.atom_lines.specs.declared.bound_atom.BoundTerm.{BoundTerm}
use Rattle.atom_lines.specs.Sums.{sum_over, cell}
use Rattle.atom_lines.proofs.GrowingSums.{add_term, size_more, sum_fits, less_fits, whole_sum, whole_small, reach_read, limit_read}
use Rattle.atom_lines.proofs.sum.reaches_of.Goals as goal

pub loop-term-preserved : goal.loop-term-preserved
loop-term-preserved g c =
    let terms = c.args.atom.now.terms.items in
    let first = g.C.Cells.values c.args.first.now in
    let second = g.C.Cells.values c.args.second.now in
    let i = c.loop-term.term-index in
    let d : BoundTerm = record { coef = pos 0; column = 0; step = false } in
    let v = c.term_values-there in
    let to = to_z w64 c.loop-term.to-bits in
    let to_more = to_z w64 (of_z w64 (to +ℤ to_z w64 (of_z w64 v.result.0))) in
    let next = to_z w64 c.loop-term.next-bits in
    let next_more = to_z w64 (of_z w64 (next +ℤ to_z w64 (of_z w64 v.result.1))) in
    let more_to : to_more ≡ to +ℤ v.result.0 = search (rules, to_z-of_z) in
    let more_next : next_more ≡ next +ℤ v.result.1 = search (rules, to_z-of_z) in
    let within : i < length terms = subst (λ xs. i < length xs) c.deref-term-items.ensures.value c.loop-term-test.true in
    let value_to : v.result.0 ≡ (get_or terms i d).coef *ℤ cell (get_or terms i d) first second =
    subst (λ (xs : List BoundTerm). v.result.0 ≡ (get_or xs i d).coef *ℤ cell (get_or xs i d) first second) c.deref-term-items.ensures.value v.ensures.to in
    let value_next : v.result.1 ≡ (get_or terms i d).coef *ℤ cell (get_or terms i d) second second =
    subst (λ (xs : List BoundTerm). v.result.1 ≡ (get_or xs i d).coef *ℤ cell (get_or xs i d) second second) c.deref-term-items.ensures.value v.ensures.next in
    record {
      to = add_term terms i d first second to (sum_over terms first second) within value_to c.loop-term.invariant.to more_to;
      next = add_term terms i d second second next (sum_over terms second second) within value_next c.loop-term.invariant.next more_next;
      small_to = size_more to v.result.0 to_more i 268435456 c.loop-term.invariant.small_to v.ensures.small_to more_to;
      small_next = size_more next v.result.1 next_more i 268435456 c.loop-term.invariant.small_next v.ensures.small_next more_next;
    }

pub overflow_add-to : goal.overflow_add-to
overflow_add-to g c =
    let within : c.loop-term.term-index < length c.args.atom.now.terms.items =
    subst (λ xs. c.loop-term.term-index < length xs) c.deref-term-items.ensures.value c.loop-term-test.true in
    sum_fits (to_z w64 c.loop-term.to-bits) c.term_values-there.result.0 c.loop-term.term-index (length c.args.atom.now.terms.items)
    c.loop-term.invariant.small_to within c.requires.sound.few c.term_values-there.ensures.small_to

pub overflow_add-next : goal.overflow_add-next
overflow_add-next g c =
    let within : c.loop-term.term-index < length c.args.atom.now.terms.items =
    subst (λ xs. c.loop-term.term-index < length xs) c.deref-term-items.ensures.value c.loop-term-test.true in
    sum_fits (to_z w64 c.loop-term.next-bits) c.term_values-there.result.1 c.loop-term.term-index (length c.args.atom.now.terms.items)
    c.loop-term.invariant.small_next within c.requires.sound.few c.term_values-there.ensures.small_next

pub overflow_sub-result : goal.overflow_sub-result
overflow_sub-result g c =
    less_fits (to_z w64 c.loop-term.to-bits) c.from.result c.loop-term.term-index (length c.args.atom.now.terms.items) c.loop-term.invariant.small_to
    (subst (λ xs. c.loop-term.term-index ≤ length xs) c.deref-term-items.ensures.value c.loop-term.auto.term-index-end) c.requires.sound.few
    (subst (λ z. nat_abs z ≤ 2 ^ 30) (sym (limit_read c.from.result c.args.atom.now.limit c.requires.sound.limit c.from.ensures))
    c.requires.sound.limit)

pub overflow_sub-result-2 : goal.overflow_sub-result-2
overflow_sub-result-2 g c =
    less_fits (to_z w64 c.loop-term.next-bits) c.from-2.result c.loop-term.term-index (length c.args.atom.now.terms.items) c.loop-term.invariant.small_next
    (subst (λ xs. c.loop-term.term-index ≤ length xs) c.deref-term-items.ensures.value c.loop-term.auto.term-index-end) c.requires.sound.few
    (subst (λ z. nat_abs z ≤ 2 ^ 30) (sym (limit_read c.from-2.result c.args.atom.now.limit c.requires.sound.limit c.from-2.ensures))
    c.requires.sound.limit)

pub returns-clause-to : goal.returns-clause-to
returns-clause-to g c =
    let terms = c.args.atom.now.terms.items in
    let first = g.C.Cells.values c.args.first.now in
    let second = g.C.Cells.values c.args.second.now in
    let i = c.loop-term.term-index in
    let past : length terms ≤ i = subst (λ xs. length xs ≤ i) c.deref-term-items.ensures.value c.loop-term-test.false in
    let within : i ≤ length terms = subst (λ xs. i ≤ length xs) c.deref-term-items.ensures.value c.loop-term.auto.term-index-end in
    reach_read c.args.atom.now first second (to_z w64 c.loop-term.to-bits) c.from.result i c.loop-term.invariant.small_to within c.requires.sound.few
    c.requires.sound.limit (limit_read c.from.result c.args.atom.now.limit c.requires.sound.limit c.from.ensures)
    (whole_sum terms first second (to_z w64 c.loop-term.to-bits) i past c.loop-term.invariant.to)

pub returns-clause-next : goal.returns-clause-next
returns-clause-next g c =
    let terms = c.args.atom.now.terms.items in
    let first = g.C.Cells.values c.args.second.now in
    let second = g.C.Cells.values c.args.second.now in
    let i = c.loop-term.term-index in
    let past : length terms ≤ i = subst (λ xs. length xs ≤ i) c.deref-term-items.ensures.value c.loop-term-test.false in
    let within : i ≤ length terms = subst (λ xs. i ≤ length xs) c.deref-term-items.ensures.value c.loop-term.auto.term-index-end in
    reach_read c.args.atom.now first second (to_z w64 c.loop-term.next-bits) c.from-2.result i c.loop-term.invariant.small_next within c.requires.sound.few
    c.requires.sound.limit (limit_read c.from-2.result c.args.atom.now.limit c.requires.sound.limit c.from-2.ensures)
    (whole_sum terms first second (to_z w64 c.loop-term.next-bits) i past c.loop-term.invariant.next)

pub returns-clause-small_to : goal.returns-clause-small_to
returns-clause-small_to g c =
    let terms = c.args.atom.now.terms.items in
    let first = g.C.Cells.values c.args.first.now in
    let second = g.C.Cells.values c.args.second.now in
    let i = c.loop-term.term-index in
    let past : length terms ≤ i = subst (λ xs. length xs ≤ i) c.deref-term-items.ensures.value c.loop-term-test.false in
    let within : i ≤ length terms = subst (λ xs. i ≤ length xs) c.deref-term-items.ensures.value c.loop-term.auto.term-index-end in
    whole_small (to_z w64 c.loop-term.to-bits) (sum_over terms first second) i (length terms) c.loop-term.invariant.small_to within c.requires.sound.few
    (whole_sum terms first second (to_z w64 c.loop-term.to-bits) i past c.loop-term.invariant.to)

pub returns-clause-small_next : goal.returns-clause-small_next
returns-clause-small_next g c =
    let terms = c.args.atom.now.terms.items in
    let first = g.C.Cells.values c.args.second.now in
    let second = g.C.Cells.values c.args.second.now in
    let i = c.loop-term.term-index in
    let past : length terms ≤ i = subst (λ xs. length xs ≤ i) c.deref-term-items.ensures.value c.loop-term-test.false in
    let within : i ≤ length terms = subst (λ xs. i ≤ length xs) c.deref-term-items.ensures.value c.loop-term.auto.term-index-end in
    whole_small (to_z w64 c.loop-term.next-bits) (sum_over terms first second) i (length terms) c.loop-term.invariant.small_next within c.requires.sound.few
    (whole_sum terms first second (to_z w64 c.loop-term.next-bits) i past c.loop-term.invariant.next)
