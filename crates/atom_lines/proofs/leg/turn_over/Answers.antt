use Rattle.std.proofs.Common.{rules, ◌≡◌, ◌≢◌, ◌∙◌, ap, sym, refl, pos, ◌<ℤ◌, not, to_z, of_z, arith}
use mathlib.Core.Bool.{beq}
use Rattle.std.specs.Int.{w64}
use Rattle.std.proofs.lemmas.Int.{to_z-of_z, ints}
use Rattle.std.proofs.lemmas.Bool.{true≢false}
use Rattle.rational.specs.Time.{◌<ʳ◌, whole}
use Rattle.rational.proofs.Shift.{lt_whole}
use Rattle.stl_syntax.specs.Truth.{compares}
use Rattle.atom_lines.specs.Legs.{turning_place}
use Rattle.atom_lines.specs.Passages.{IsTurning, crossing_time}
use Rattle.atom_lines.proofs.Crossings.{IsTurn, turn_at, even_truth, held_truth, truth_from_zero}
use Rattle.atom_lines.proofs.WayLemmas.{turning_of}
use Rattle.atom_lines.proofs.LegLemmas.{lies_inside, lies_behind, bend_inside, bend_behind, apart_of, other_of, same_of}
use Rattle.atom_lines.proofs.leg.turn_over.Goals as goal
use Rattle.atom_lines.proofs.leg.turn_over.Goals.{After-holds, After-turning}

-- the truths at the two ends of the gap
at_begin : (c : After-holds) → c.holds-before.result ≡ compares c.args.rel (whole c.args.gap.now.from)
at_begin c =
    let from : to_z w64 (of_z w64 c.args.gap.now.from) ≡ c.args.gap.now.from = search (rules, to_z-of_z) in
    c.holds-before.ensures ∙ c.truth_at.ensures ∙ ap (λ n. compares c.args.rel (whole n)) from

at_end : (c : After-holds) → c.holds.result ≡ compares c.args.rel (whole c.args.gap.now.to)
at_end c =
    let to : to_z w64 (of_z w64 c.args.gap.now.to) ≡ c.args.gap.now.to = search (rules, to_z-of_z) in
    c.holds.ensures ∙ c.truth_at-2.ensures ∙ ap (λ n. compares c.args.rel (whole n)) to

pub returns-then-holds-before-clause-bends : goal.returns-then-holds-before-clause-bends
returns-then-holds-before-clause-bends c = λ t a b.
    let d = (goal.at.returns-then-holds-before-clause-bends c).After-holds in
    even_truth c.args.gap.now c.args.rel t (sym (at_begin d) ∙ sym (same_of _ _ c.if-holds-before.true) ∙ at_end d) a b

turn_is : (c : After-turning) → IsTurn c.args.gap.now c.args.rel (crossing_time c.turning.result)
turn_is c = turn_at c.args.gap.now c.args.rel (crossing_time c.turning.result) (c.changes_sign.ensures.0 c.if-changes_sign.true) c.turning.ensures

pub returns-then-changes_sign-clause-inside : goal.returns-then-changes_sign-clause-inside
returns-then-changes_sign-clause-inside c =
    let turn = turn_is (goal.at.returns-then-changes_sign-clause-inside c).After-turning in
    lies_inside (whole (pos c.args.gap.now.first)) (whole (pos c.args.gap.now.second)) (crossing_time c.turning.result)
    (beq c.holds-point.result c.holds-before.result) turn.after_first turn.before_second

pub returns-then-changes_sign-clause-bends : goal.returns-then-changes_sign-clause-bends
returns-then-changes_sign-clause-bends c =
    let g = c.args.gap.now in
    let d = (goal.at.returns-then-changes_sign-clause-bends c).After-holds in
    let x = crossing_time c.turning.result in
    let point : c.holds-point.result ≡ compares c.args.rel (whole (pos 0)) = c.holds-point.ensures ∙ c.truth_at-then-changes_sign.ensures in
    bend_inside (whole (pos g.first)) (whole (pos g.second)) _ (compares c.args.rel (whole g.from)) _
    (turning_of g c.args.rel x (compares c.args.rel (whole g.from)) c.holds-point.result (beq c.holds-point.result c.holds-before.result)
    (turn_is (goal.at.returns-then-changes_sign-clause-bends c).After-turning) refl point
    (λ e. same_of _ _ e ∙ at_begin d) (λ e h. apart_of _ _ e (h ∙ sym (at_begin d))))

pub returns-then-gap-eq0-clause-inside : goal.returns-then-gap-eq0-clause-inside
returns-then-gap-eq0-clause-inside c =
    let g = c.args.gap.now in
    let r = g.rising in
    lies_behind (whole (pos g.first)) (whole (pos g.second)) (turning_place c.right_behind.result) c.right_behind.ensures
    (lt_whole (let l : pos g.first <ℤ pos g.second = omega (arith, ints, r) in l))

pub returns-then-gap-eq0-clause-bends : goal.returns-then-gap-eq0-clause-bends
returns-then-gap-eq0-clause-bends c =
    let g = c.args.gap.now in
    let d = (goal.at.returns-then-gap-eq0-clause-bends c).After-holds in
    let from : to_z w64 (of_z w64 g.from) ≡ g.from = search (rules, to_z-of_z) in
    bend_behind (whole (pos g.first)) (whole (pos g.second)) _ (compares c.args.rel (whole g.from)) (turning_place c.right_behind.result) c.right_behind.ensures
    (λ t a b. truth_from_zero g c.args.rel t (sym from ∙ ap (to_z w64) c.if-gap-eq0.true) a b
    ∙ sym (at_end d) ∙ other_of _ _ c.if-holds-before.false ∙ ap not (at_begin d))

pub returns-clause-bends : goal.returns-clause-bends
returns-clause-bends c = λ t a b.
    held_truth c.args.gap.now c.args.rel t (λ e. c.if-gap-eq0.false (ap (of_z w64) e))
    (λ p. true≢false (sym (c.changes_sign.ensures.1 p) ∙ c.if-changes_sign.false)) a b
