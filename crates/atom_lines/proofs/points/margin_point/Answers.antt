use Rattle.std.proofs.Common.{rules, ◌≡◌, ◌≤◌, ◌^◌, ℤ, ◌-ℤ◌, nat_abs, arith, sym, subst, to_z, of_z}
use Rattle.std.specs.Int.{w64}
use Rattle.std.proofs.lemmas.Int.{to_z-of_z, ints}
use Rattle.rational.specs.Rational.{whole}
use Rattle.rational.specs.Extended.{finite, value_at, ◌≈ᵉ◌}
use Rattle.rational.proofs.Order.{same_sym}
use Rattle.rational.proofs.AffineLemmas.{same_transᵉ, finite_same, bounded_same}
use Rattle.rational.proofs.Mixed.{within_whole, within_same}
use Rattle.value_laws.specs.Margins.{margin_function}
use Rattle.stl_syntax.specs.Truth.{expression}
use Rattle.stl_syntax.specs.SupInf.{margin}
use Rattle.stl_syntax.proofs.TimeLaw.{margin_same}
use Rattle.atom_lines.specs.Sums.{reach, sum_over}
use Rattle.atom_lines.specs.Signs.{signed}
use Rattle.atom_lines.proofs.Margins.{margin_whole, signed_size}
use Rattle.atom_lines.proofs.SumLemmas.{atom_binding, expression_at_row}
use Rattle.atom_lines.proofs.points.margin_point.Goals as goal

pub returns-clause-margin : goal.returns-clause-margin
returns-clause-margin c = λ a tr t for has e.
    let b = c.args.bound.now in
    let k = c.atom-atom.result.now in
    let r = c.args.row.now in
    let f = margin_function c.margin_at.result in
    let sum : to_z w64 (of_z w64 c.reach_of.result) ≡ reach k r.values r.values = search (rules, to_z-of_z) in
    let rel = (atom_binding b c.args.node k c.atom-atom.ensures.at a tr for).rel in
    let here : value_at f t ≈ᵉ finite (margin a.rel (whole (reach k r.values r.values))) =
    subst (λ q. value_at f t ≈ᵉ finite (margin q (whole (reach k r.values r.values)))) rel
    (subst (λ n. value_at f t ≈ᵉ finite (margin k.rel (whole n))) sum (c.margin_at.ensures.worth t)) in
    same_transᵉ (value_at f t) (finite (margin a.rel (whole (reach k r.values r.values)))) (finite (margin a.rel (expression a tr t))) here
    (finite_same (margin_same a.rel (same_sym (expression_at_row b c.args.node k c.atom-atom.ensures.at a tr for r t has e))))

-- a sum within 2^30 less a limit within 2^30
small_reach : (s l : ℤ) → nat_abs s ≤ 2 ^ 30 → nat_abs l ≤ 1073741824 → nat_abs (s -ℤ l) ≤ 2 ^ 31
small_reach s l h k = omega (arith, ints, h, k)

pub returns-clause-within : goal.returns-clause-within
returns-clause-within c = λ t.
    let k = c.atom-atom.result.now in
    let n = to_z w64 (of_z w64 c.reach_of.result) in
    let f = margin_function c.margin_at.result in
    let r = c.args.row.now in
    let sum : n ≡ reach k r.values r.values = search (rules, to_z-of_z) in
    let small : nat_abs n ≤ 2 ^ 31 = subst (λ m. nat_abs m ≤ 2 ^ 31) (sym sum)
    (small_reach (sum_over k.terms.items r.values r.values) k.limit c.reach_of.ensures.small c.atom-atom.ensures.sound.limit) in
    bounded_same (2 ^ 31) (value_at f t) (finite (margin k.rel (whole n))) (c.margin_at.ensures.worth t)
    (within_same (2 ^ 31) (margin_whole k.rel n)
    (within_whole (2 ^ 31) (signed k.rel n) (subst (λ m. m ≤ 2 ^ 31) (sym (signed_size k.rel n)) small)))
