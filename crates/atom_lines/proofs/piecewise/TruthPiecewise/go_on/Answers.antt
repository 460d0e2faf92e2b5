use Rattle.std.proofs.Common.{◌≡◌, ◌∙◌, sym, subst, to_z, of_z}
use Rattle.std.specs.Prelude.{OnOk}
use Rattle.std.specs.Int.{w64}
use Rattle.std.proofs.lemmas.Bool.{true≢false}
use Rattle.std.proofs.lemmas.Int.{to_z-of_z}
use Rattle.rational.specs.Rational.{whole}
use Rattle.rational.specs.Line.{at}
use Rattle.value_laws.specs.Kinds.{truth_shape}
use Rattle.atom_lines.specs.Gaps.{along, AreOfSign}
use Rattle.atom_lines.specs.Growing.{GoesAlong}
use Rattle.atom_lines.specs.How.{by_truth}
use Rattle.atom_lines.proofs.GrowingLemmas.{goes_still}
use Rattle.atom_lines.proofs.ValueLimits.{one_sign, truths_alike}
use Rattle.atom_lines.proofs.piecewise.TruthPiecewise.go_on.Goals as goal

pub returns-then-keeps_sign : goal.returns-then-keeps_sign
returns-then-keeps_sign c =
    let g = c.args.gap.now in
    let then : to_z w64 (of_z w64 c.args.next) ≡ c.args.next = to_z-of_z w64 c.args.next c.ranges.next in
    let one = one_sign g c.args.next c.args.rel (subst (AreOfSign g) then (c.keeps_sign.ensures c.if-keeps_sign.true)) in
    goes_still _ by_truth c.args.rel g c.args.next c.args.signal.now c.requires.signal c.requires.limited c.requires.late
    (truths_alike c.args.rel (whole g.from) (whole c.args.next) one.0)
    (λ t a b. truths_alike c.args.rel (at (along g) t) (whole c.args.next) (one.1 t a b))

pub turn_over-requires-clause-passes : goal.turn_over-requires-clause-passes
turn_over-requires-clause-passes c = c.changes_sign.ensures.0 c.if-changes_sign.true

pub stay_over-requires-clause-stays : goal.stay_over-requires-clause-stays
stay_over-requires-clause-stays c = λ p. true≢false (sym (c.changes_sign.ensures.1 p) ∙ c.if-changes_sign.false)

pub returns-then-changes_sign : goal.returns-then-changes_sign
returns-then-changes_sign c =
    let then : to_z w64 (of_z w64 c.args.next) ≡ c.args.next = to_z-of_z w64 c.args.next c.ranges.next in
    subst (λ n. OnOk c.turn_over.result (GoesAlong truth_shape by_truth c.args.rel c.args.gap.now n c.args.signal.now c.turn_over.new.signal)) then
    c.turn_over.ensures

pub returns : goal.returns
returns c =
    let then : to_z w64 (of_z w64 c.args.next) ≡ c.args.next = to_z-of_z w64 c.args.next c.ranges.next in
    subst (λ n. OnOk c.stay_over.result (GoesAlong truth_shape by_truth c.args.rel c.args.gap.now n c.args.signal.now c.stay_over.new.signal)) then
    c.stay_over.ensures
