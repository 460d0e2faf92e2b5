use Rattle.std.proofs.lemmas.Bool.{true≢false}
use Rattle.std.proofs.Common.{rules, ◌≡◌, ◌<◌, ◌∙◌, sym, pos, subst, to_z, of_z, arith}
use Rattle.std.specs.Int.{w64}
use Rattle.std.proofs.lemmas.Int.{to_z-of_z}
use Rattle.std.proofs.lemmas.Result.{on_ok_weaker}
use Rattle.rational.specs.Rational.{Rational, ◌≈◌, whole}
use Rattle.rational.specs.Line.{at}
use Rattle.rational.specs.Extended.{value_at, ◌≈ᵉ◌}
use Rattle.rational.proofs.Mixed.{tick_within}
use Rattle.rational.proofs.AffineLemmas.{same_reflᵉ}
use Rattle.frac128.specs.Value.{value}
use Rattle.value_laws.specs.Margins.{margin_function}
use Rattle.value_laws.specs.Kinds.{margin_shape}
use Rattle.atom_lines.specs.Gaps.{along}
use Rattle.atom_lines.specs.How.{by_margin, worth}
use Rattle.atom_lines.proofs.GrowingLemmas.{before_end, goes_one, goes_still, margin_row_base}
use Rattle.atom_lines.proofs.ValueLimits.{along_still}
use Rattle.atom_lines.proofs.Readings.{worth_same}
use Rattle.atom_lines.proofs.piecewise.MarginPiecewise.go_on.Goals as goal

pub returns-then-stays : goal.returns-then-stays
returns-then-stays c =
    let g = c.args.gap.now in
    let to : g.to ≡ g.from = c.stays.ensures.from c.if-stays.true in
    let then : to_z w64 (of_z w64 c.args.next) ≡ c.args.next = to_z-of_z w64 c.args.next c.ranges.next in
    let next : c.args.next ≡ g.from = sym then ∙ c.stays.ensures.next c.if-stays.true in
    goes_still margin_shape by_margin c.args.rel g c.args.next c.args.signal.now c.requires.signal c.requires.limited c.requires.late
    (subst (λ n. worth by_margin c.args.rel (whole g.from) ≈ᵉ worth by_margin c.args.rel (whole n)) (sym next)
    (same_reflᵉ (worth by_margin c.args.rel (whole g.from))))
    (λ t a b. subst (λ n. worth by_margin c.args.rel (at (along g) t) ≈ᵉ worth by_margin c.args.rel (whole n)) (sym next)
    (worth_same by_margin c.args.rel (along_still g t to a b)))

pub step-requires-clause-limited : goal.step-requires-clause-limited
step-requires-clause-limited c =
    let g = c.args.gap.now in
    let first : g.first < 4294967296 = omega arith in
    tick_within g.first first c.in_ok-catch_up.ensures.ends

pub step-requires-clause-later : goal.step-requires-clause-later
step-requires-clause-later c =
    let g = c.args.gap.now in
    let end : to_z w64 (of_z w64 c.from.result) ≡ pos g.second = search (rules, to_z-of_z) in
    let is : value c.of-end.result ≈ whole (pos g.second) = rw end at c.of-end.ensures.value in
    before_end g c.in_ok-catch_up.ensures.ends is

pub returns : goal.returns
returns c =
    let g = c.args.gap.now in
    let end : to_z w64 (of_z w64 c.from.result) ≡ pos g.second = search (rules, to_z-of_z) in
    let is : value c.of-end.result ≈ whole (pos g.second) = rw end at c.of-end.ensures.value in
    let then : to_z w64 (of_z w64 c.args.next) ≡ c.args.next = to_z-of_z w64 c.args.next c.ranges.next in
    let now : to_z w64 (of_z w64 g.from) ≡ g.from = search (rules, to_z-of_z) in
    let first : g.first < 4294967296 = omega arith in
    let second : g.second < 4294967296 = omega arith in
    let was : (t : Rational) → value_at (margin_function c.margin_at.result) t ≈ᵉ worth by_margin c.args.rel (whole g.from) =
    λ t. subst (λ n. value_at (margin_function c.margin_at.result) t ≈ᵉ worth by_margin c.args.rel (whole n)) now (c.margin_at.ensures.worth t) in
    let here : (t : Rational) → value_at (margin_function c.margin_at-2.result) t ≈ᵉ worth by_margin c.args.rel (whole c.args.next) =
    λ t. subst (λ n. value_at (margin_function c.margin_at-2.result) t ≈ᵉ worth by_margin c.args.rel (whole n)) then (c.margin_at-2.ensures.worth t) in
    on_ok_weaker c.step.result
    (λ on. goes_one margin_shape by_margin c.args.rel g c.args.next c.step.new.self c.margin_between.result c.margin_at-2.result c.in_ok-catch_up.ensures
    (record { end = c.of-end.result; few = second; at_end = is; goes = on; on_gap = λ t a b. c.margin_between.ensures.worth t; there = here }) was
    (margin_row_base c.margin_at.result g.first first (λ r. absurd (true≢false (sym r ∙ c.margin_at.ensures.level))))
    (margin_row_base c.margin_between.result g.first first c.margin_between.ensures.base)
    (margin_row_base c.margin_at-2.result g.first first (λ r. absurd (true≢false (sym r ∙ c.margin_at-2.ensures.level))))) c.step.ensures.ok
