-- How much a row costs, by how many nodes there are.
use Rattle.std.proofs.Common.{ℕ, zero, suc, ◌+◌, ◌*◌, ◌<◌, ◌≤◌, length, arith}
use Rattle.stl_syntax.specs.Formula.{subformula}
use Rattle.bounds.specs.Parts.{parts_of}
use Rattle.bounds.specs.Rests.{verdicts_for_a_row}
use Rattle.bounds.proofs.PartsFew.{rows_cost_few, places_have_few_parts}
use Rattle.watch_bounds.specs.Holdings.{RowsHoldFew}
use Rattle.watch_bounds.specs.Work.{RowsAreLittleWork}
use Rattle.watch_bounds.proofs.Totals.{total_at_most}

one_place : (v p i n : ℕ) → v ≤ 9 * p → p ≤ suc i → i < n → v + 1 ≤ 10 * n
one_place v p i n h k l = omega (arith, h, k, l)

pub rows_hold_few : RowsHoldFew
rows_hold_few nodes order =
    let few = total_at_most (λ i. verdicts_for_a_row (subformula nodes i) + 1) (10 * length nodes) (length nodes)
    (λ i l. one_place (verdicts_for_a_row (subformula nodes i)) (parts_of (subformula nodes i)) i (length nodes) (rows_cost_few (subformula nodes i)).1
    (places_have_few_parts nodes order i l) l) in
    omega (arith, few)

square : (n : ℕ) → n ≤ n * n
square zero = omega arith
square (suc n) = omega arith

pub rows_are_little_work : RowsAreLittleWork
rows_are_little_work nodes order =
    let a = rows_hold_few nodes order in
    let b = square (length nodes) in
    omega (arith, a, b)
