use Rattle.std.proofs.Common.{rules, ◌≡◌, ◌<◌, ◌^◌, ◌∙◌, ap, sym, pos, subst, to_z, of_z, arith}
use Rattle.std.specs.Int.{w64}
use Rattle.std.proofs.lemmas.Int.{to_z-of_z}
use Rattle.std.proofs.lemmas.Result.{on_ok_weaker}
use Rattle.rational.specs.Rational.{◌≈◌, ◌<ʳ◌, whole, IsWithin}
use Rattle.rational.specs.Line.{at}
use Rattle.rational.proofs.Order.{lt_of_le_of_lt, lt_of_lt_of_le, ge_of_same}
use Rattle.frac128.specs.Value.{value}
use Rattle.value_laws.specs.Kinds.{truth_shape}
use Rattle.stl_syntax.specs.Truth.{compares}
use Rattle.atom_lines.specs.Gaps.{along}
use Rattle.atom_lines.specs.How.{by_truth}
use Rattle.atom_lines.proofs.Crossings.{turn_at}
use Rattle.atom_lines.proofs.GrowingLemmas.{between_within, goes_turn, goes_two, truth_worth, zero_base}
use Rattle.atom_lines.proofs.ValueLimits.{truths_alike}
use Rattle.atom_lines.proofs.piecewise.turn_over.Goals as goal

pub go_along-requires-clause-later : goal.go_along-requires-clause-later
go_along-requires-clause-later c =
    let turn = turn_at c.args.gap.now c.args.rel (value c.crossing-at.result) c.requires.passes c.crossing-at.ensures.zero in
    lt_of_le_of_lt c.requires.late turn.after_first

pub go_along-requires-2-clause-limited : goal.go_along-requires-2-clause-limited
go_along-requires-2-clause-limited c =
    let g = c.args.gap.now in
    let turn = turn_at g c.args.rel (value c.crossing-at.result) c.requires.passes c.crossing-at.ensures.zero in
    let first : g.first < 4294967296 = omega arith in
    let second : g.second < 4294967296 = omega arith in
    subst (IsWithin (2 ^ 34)) (sym c.in_ok-go_along.ensures.ok.ends) (between_within g.first g.second first second turn.after_first turn.before_second)

pub go_along-requires-2-clause-later : goal.go_along-requires-2-clause-later
go_along-requires-2-clause-later c =
    let g = c.args.gap.now in
    let turn = turn_at g c.args.rel (value c.crossing-at.result) c.requires.passes c.crossing-at.ensures.zero in
    let end : to_z w64 (of_z w64 c.from.result) ≡ pos g.second = search (rules, to_z-of_z) in
    let is : value c.of-end.result ≈ whole (pos g.second) = rw end at c.of-end.ensures.value in
    subst (λ x. x <ʳ value c.of-end.result) (sym c.in_ok-go_along.ensures.ok.ends) (lt_of_lt_of_le turn.before_second (ge_of_same is))

pub returns-then-next-gap : goal.returns-then-next-gap
returns-then-next-gap c =
    let g = c.args.gap.now in
    let rel = c.args.rel in
    let turn = turn_at g rel (value c.crossing-at.result) c.requires.passes c.crossing-at.ensures.zero in
    let from : to_z w64 (of_z w64 g.from) ≡ g.from = search (rules, to_z-of_z) in
    let to : to_z w64 (of_z w64 g.to) ≡ g.to = search (rules, to_z-of_z) in
    let then : to_z w64 (of_z w64 c.args.next) ≡ c.args.next = to_z-of_z w64 c.args.next c.ranges.next in
    let was : compares rel (whole g.from) ≡ c.truth_at-before.result.holds = ap (λ n. compares rel (whole n)) (sym from) ∙ sym c.truth_at-before.ensures in
    let point : compares rel (whole (pos 0)) ≡ c.truth_at-point.result.holds = sym c.truth_at-point.ensures in
    let alike : g.to ≡ c.args.next = sym to ∙ ap (to_z w64) (sym c.if-next-gap.true) ∙ then in
    let first : g.first < 4294967296 = omega arith in
    let second : g.second < 4294967296 = omega arith in
    goes_turn truth_shape by_truth rel g c.args.next c.args.signal.now c.go_along.new.self
    c.truth_at-before.result c.truth_at-point.result c.crossing-at.result first second
    (record {
      late = c.requires.late;
      after_first = turn.after_first;
      before_second = turn.before_second;
      goes = c.in_ok-go_along.ensures.ok;
      begins = λ t. truth_worth c.truth_at-before.result rel (whole g.from) t was;
      until_then = λ t a b. truth_worth c.truth_at-before.result rel (at (along g) t) t (turn.until_then t a b ∙ was);
      at_turn = λ t e. truth_worth c.truth_at-point.result rel (at (along g) t) t (turn.there t e ∙ point);
    })
    (λ t a b. truths_alike rel (at (along g) t) (whole c.args.next) (turn.from_then t a b ∙ ap (λ n. compares rel (whole n)) alike))
    (λ p. zero_base)

pub returns : goal.returns
returns c =
    let g = c.args.gap.now in
    let rel = c.args.rel in
    let turn = turn_at g rel (value c.crossing-at.result) c.requires.passes c.crossing-at.ensures.zero in
    let end : to_z w64 (of_z w64 c.from.result) ≡ pos g.second = search (rules, to_z-of_z) in
    let is : value c.of-end.result ≈ whole (pos g.second) = rw end at c.of-end.ensures.value in
    let from : to_z w64 (of_z w64 g.from) ≡ g.from = search (rules, to_z-of_z) in
    let to : to_z w64 (of_z w64 g.to) ≡ g.to = search (rules, to_z-of_z) in
    let then : to_z w64 (of_z w64 c.args.next) ≡ c.args.next = to_z-of_z w64 c.args.next c.ranges.next in
    let was : compares rel (whole g.from) ≡ c.truth_at-before.result.holds = ap (λ n. compares rel (whole n)) (sym from) ∙ sym c.truth_at-before.ensures in
    let point : compares rel (whole (pos 0)) ≡ c.truth_at-point.result.holds = sym c.truth_at-point.ensures in
    let after : compares rel (whole g.to) ≡ c.truth_at-after.result.holds = ap (λ n. compares rel (whole n)) (sym to) ∙ sym c.truth_at-after.ensures in
    let last : compares rel (whole c.args.next) ≡ c.truth_at-last.result.holds =
    ap (λ n. compares rel (whole n)) (sym then) ∙ sym c.truth_at-last.ensures in
    let second : g.second < 4294967296 = omega arith in
    on_ok_weaker c.go_along-2.result
    (λ off. goes_two truth_shape by_truth rel g c.args.next c.args.signal.now c.go_along.new.self c.go_along-2.new.self
    c.truth_at-before.result c.truth_at-point.result c.truth_at-after.result c.truth_at-last.result c.crossing-at.result
    (record {
      late = c.requires.late;
      after_first = turn.after_first;
      before_second = turn.before_second;
      goes = c.in_ok-go_along.ensures.ok;
      begins = λ t. truth_worth c.truth_at-before.result rel (whole g.from) t was;
      until_then = λ t a b. truth_worth c.truth_at-before.result rel (at (along g) t) t (turn.until_then t a b ∙ was);
      at_turn = λ t e. truth_worth c.truth_at-point.result rel (at (along g) t) t (turn.there t e ∙ point);
    })
    (record {
      end = c.of-end.result;
      few = second;
      at_end = is;
      goes = off;
      on_gap = λ t a b. truth_worth c.truth_at-after.result rel (at (along g) t) t (turn.from_then t a b ∙ after);
      there = λ t. truth_worth c.truth_at-last.result rel (whole c.args.next) t last;
    })
    (λ p. zero_base)) c.go_along-2.ensures.ok
