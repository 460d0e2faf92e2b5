use Rattle.std.proofs.Common.{rules, ◌≡◌, ◌<◌, ◌∙◌, ◌+ℤ◌, ap, sym, pos, to_z, of_z, arith}
use Rattle.std.specs.Int.{w64}
use Rattle.std.proofs.lemmas.Int.{to_z-of_z}
use Rattle.std.proofs.lemmas.Result.{on_ok_weaker}
use Rattle.rational.specs.Rational.{◌≈◌, whole}
use Rattle.rational.specs.Line.{at}
use Rattle.rational.proofs.Mixed.{tick_within}
use Rattle.rational.proofs.Order.{lt_of_le_of_lt, lt_of_lt_of_le, ge_of_same}
use Rattle.frac128.specs.Value.{value}
use Rattle.value_laws.specs.Kinds.{truth_shape}
use Rattle.stl_syntax.specs.Truth.{compares}
use Rattle.atom_lines.specs.Gaps.{along}
use Rattle.atom_lines.specs.How.{by_truth}
use Rattle.atom_lines.proofs.Crossings.{one_truth}
use Rattle.atom_lines.proofs.GrowingLemmas.{before_end, gap_in_order, goes_level, goes_one, truth_worth, zero_base}
use Rattle.atom_lines.proofs.piecewise.stay_over.Goals as goal

pub go_along-requires-2-clause-limited : goal.go_along-requires-2-clause-limited
go_along-requires-2-clause-limited c =
    let g = c.args.gap.now in
    let first : g.first < 4294967296 = omega arith in
    tick_within g.first first c.in_ok-catch_up.ensures.ends

pub go_along-requires-2-clause-later : goal.go_along-requires-2-clause-later
go_along-requires-2-clause-later c =
    let g = c.args.gap.now in
    let end : to_z w64 (of_z w64 c.from.result) ≡ pos g.second = search (rules, to_z-of_z) in
    let is : value c.of-end.result ≈ whole (pos g.second) = rw end at c.of-end.ensures.value in
    before_end g c.in_ok-catch_up.ensures.ends is

pub go_along-requires-clause-later : goal.go_along-requires-clause-later
go_along-requires-clause-later c =
    let g = c.args.gap.now in
    let end : to_z w64 (of_z w64 c.from.result) ≡ pos g.second = search (rules, to_z-of_z) in
    let is : value c.of-end.result ≈ whole (pos g.second) = rw end at c.of-end.ensures.value in
    lt_of_le_of_lt c.requires.late (lt_of_lt_of_le (gap_in_order g) (ge_of_same is))

pub returns-then-holds : goal.returns-then-holds
returns-then-holds c =
    let g = c.args.gap.now in
    let rel = c.args.rel in
    let end : to_z w64 (of_z w64 c.from.result) ≡ pos g.second = search (rules, to_z-of_z) in
    let is : value c.of-end.result ≈ whole (pos g.second) = rw end at c.of-end.ensures.value in
    let from : to_z w64 (of_z w64 g.from) ≡ g.from = search (rules, to_z-of_z) in
    let then : to_z w64 (of_z w64 c.args.next) ≡ c.args.next = to_z-of_z w64 c.args.next c.ranges.next in
    let alike : c.truth_at-before.result.holds ≡ c.truth_at-after.result.holds = search rules in
    let was : compares rel (whole g.from) ≡ c.truth_at-after.result.holds =
    ap (λ n. compares rel (whole n)) (sym from) ∙ sym c.truth_at-before.ensures ∙ alike in
    let sum : compares rel (whole (g.from +ℤ g.to)) ≡ c.truth_at-after.result.holds = search rules in
    let last : compares rel (whole c.args.next) ≡ c.truth_at-last.result.holds =
    ap (λ n. compares rel (whole n)) (sym then) ∙ sym c.truth_at-last.ensures in
    let second : g.second < 4294967296 = omega arith in
    on_ok_weaker c.go_along.result
    (λ on. goes_level truth_shape by_truth rel g c.args.next c.args.signal.now c.go_along.new.self
    c.truth_at-after.result c.truth_at-last.result c.requires.late
    (record {
      end = c.of-end.result;
      few = second;
      at_end = is;
      goes = on;
      on_gap = λ t a b. truth_worth c.truth_at-after.result rel (at (along g) t) t (one_truth g rel t c.requires.stays a b ∙ sum);
      there = λ t. truth_worth c.truth_at-last.result rel (whole c.args.next) t last;
    })
    (λ t. truth_worth c.truth_at-after.result rel (whole g.from) t was)
    (λ p. zero_base)) c.go_along.ensures.ok

pub returns : goal.returns
returns c =
    let g = c.args.gap.now in
    let rel = c.args.rel in
    let end : to_z w64 (of_z w64 c.from.result) ≡ pos g.second = search (rules, to_z-of_z) in
    let is : value c.of-end.result ≈ whole (pos g.second) = rw end at c.of-end.ensures.value in
    let from : to_z w64 (of_z w64 g.from) ≡ g.from = search (rules, to_z-of_z) in
    let then : to_z w64 (of_z w64 c.args.next) ≡ c.args.next = to_z-of_z w64 c.args.next c.ranges.next in
    let was : compares rel (whole g.from) ≡ c.truth_at-before.result.holds = ap (λ n. compares rel (whole n)) (sym from) ∙ sym c.truth_at-before.ensures in
    let sum : compares rel (whole (g.from +ℤ g.to)) ≡ c.truth_at-after.result.holds = search rules in
    let last : compares rel (whole c.args.next) ≡ c.truth_at-last.result.holds =
    ap (λ n. compares rel (whole n)) (sym then) ∙ sym c.truth_at-last.ensures in
    let second : g.second < 4294967296 = omega arith in
    on_ok_weaker c.go_along-2.result
    (λ on. goes_one truth_shape by_truth rel g c.args.next c.go_along-2.new.self c.truth_at-after.result c.truth_at-last.result c.in_ok-catch_up.ensures
    (record {
      end = c.of-end.result;
      few = second;
      at_end = is;
      goes = on;
      on_gap = λ t a b. truth_worth c.truth_at-after.result rel (at (along g) t) t (one_truth g rel t c.requires.stays a b ∙ sum);
      there = λ t. truth_worth c.truth_at-last.result rel (whole c.args.next) t last;
    })
    (λ t. truth_worth c.truth_at-before.result rel (whole g.from) t was)
    zero_base zero_base zero_base) c.go_along-2.ensures.ok
