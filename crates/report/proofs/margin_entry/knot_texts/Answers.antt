use Rattle.std.proofs.Common.{arith, lit<}
use Rattle.std.proofs.lemmas.Str.{IsCharBoundary-start}
use Rattle.rational.specs.Extended.{value_at}
use Rattle.frac128.specs.Value.{value}
use Rattle.value_laws.specs.Margins.{margin_function}
use Rattle.stl_syntax.specs.Texts.{IsNumberText, IsValueText}
use Rattle.answer_lines.proofs.TextsBehind.{add_then}
use Rattle.report.proofs.TextParts.{none_added, part_is, cut_before, cut_behind, cut_last}
use Rattle.report.proofs.margin_entry.knot_texts.Goals as goal

pub part-at-requires-clause-begins : goal.part-at-requires-clause-begins
part-at-requires-clause-begins c = IsCharBoundary-start c.in_ok-all.all.now c.in_ok-all.ensures.utf8

pub part-at-requires-clause-ends : goal.part-at-requires-clause-ends
part-at-requires-clause-ends c =
    let (A, is_a, few_a, a) = c.put-comma.ensures in
    let (M, is_m, few_m, m) = c.put-end.ensures in
    cut_before c.in_ok-all.ensures.same a (add_then c.add_byte-point.ensures m) (lit< tt)

pub part-margin-requires-clause-order : goal.part-margin-requires-clause-order
part-margin-requires-clause-order c = let (M, is_m, few_m, m) = c.put-end.ensures in omega (arith, m.size)

pub part-margin-requires-clause-begins : goal.part-margin-requires-clause-begins
part-margin-requires-clause-begins c =
    let (A, is_a, few_a, a) = c.put-comma.ensures in
    let (M, is_m, few_m, m) = c.put-end.ensures in
    cut_behind c.in_ok-all.ensures.same c.in_ok-all.ensures.utf8 a c.add_byte-point.ensures m (lit< tt)

pub part-margin-requires-clause-ends : goal.part-margin-requires-clause-ends
part-margin-requires-clause-ends c =
    let (A, is_a, few_a, a) = c.put-comma.ensures in
    let (M, is_m, few_m, m) = c.put-end.ensures in
    cut_last c.in_ok-all.ensures.same (add_then (add_then a c.add_byte-point.ensures) m)

pub returns-clause-at : goal.returns-clause-at
returns-clause-at c =
    let (A, is_a, few_a, a) = c.put-comma.ensures in
    let (M, is_m, few_m, m) = c.put-end.ensures in
    part_is (IsNumberText c.args.scale.time (value c.args.k.now.time)) c.in_ok-all.ensures.same c.part-at.ensures (none_added c.args.room.now 0) a
    (add_then c.add_byte-point.ensures m) is_a

pub returns-clause-margin : goal.returns-clause-margin
returns-clause-margin c =
    let k = c.args.k.now in
    let (A, is_a, few_a, a) = c.put-comma.ensures in
    let (M, is_m, few_m, m) = c.put-end.ensures in
    part_is (IsValueText c.args.scale.value (value_at (margin_function k.point) (value k.time))) c.in_ok-all.ensures.same c.part-margin.ensures
    (add_then a c.add_byte-point.ensures) m (none_added _ _) is_m
