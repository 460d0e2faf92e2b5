use Rattle.std.proofs.Common.{arith, refl, lit<}
use Rattle.std.proofs.lemmas.Str.{IsCharBoundary-start}
use Rattle.rational.specs.Extended.{value_at}
use Rattle.frac128.specs.Value.{value}
use Rattle.value_laws.specs.Margins.{margin_function}
use Rattle.stl_syntax.specs.Texts.{IsNumberText, IsValueText}
use Rattle.answer_lines.proofs.TextsBehind.{add_then}
use Rattle.report.specs.JsonTexts.{IsGapText}
use Rattle.report.proofs.TextParts.{none_added, part_is, cut_before, cut_behind, cut_last}
use Rattle.report.proofs.margin_entry.step_texts.Goals as goal

pub part-from-requires-clause-begins : goal.part-from-requires-clause-begins
part-from-requires-clause-begins c = IsCharBoundary-start c.in_ok-all.all.now c.in_ok-all.ensures.utf8

pub part-from-requires-clause-ends : goal.part-from-requires-clause-ends
part-from-requires-clause-ends c =
    let (F, is_f, few_f, f) = c.put-gap.ensures in
    let (A, is_a, few_a, a) = c.put-comma.ensures in
    let (B, is_b, few_b, b) = c.put_new-close.ensures in
    let (T, is_t, few_t, t) = c.put-mark.ensures in
    let (M, is_m, few_m, m) = c.put-end.ensures in
    let after = add_then (add_then t c.add_byte-point.ensures) m in
    cut_before c.in_ok-all.ensures.same f (add_then c.add_byte-begin.ensures (add_then a (add_then c.add_byte-stop.ensures (add_then b
    (add_then c.add_byte-limit.ensures after))))) (lit< tt)

pub part-on-requires-clause-order : goal.part-on-requires-clause-order
part-on-requires-clause-order c =
    let (A, is_a, few_a, a) = c.put-comma.ensures in
    let (B, is_b, few_b, b) = c.put_new-close.ensures in
    omega (arith, c.add_byte-begin.ensures.size, a.size, c.add_byte-stop.ensures.size, b.size, c.add_byte-limit.ensures.size)

pub part-on-requires-clause-begins : goal.part-on-requires-clause-begins
part-on-requires-clause-begins c =
    let (F, is_f, few_f, f) = c.put-gap.ensures in
    let (A, is_a, few_a, a) = c.put-comma.ensures in
    let (B, is_b, few_b, b) = c.put_new-close.ensures in
    let (T, is_t, few_t, t) = c.put-mark.ensures in
    let (M, is_m, few_m, m) = c.put-end.ensures in
    let after = add_then (add_then t c.add_byte-point.ensures) m in
    cut_before c.in_ok-all.ensures.same f (add_then c.add_byte-begin.ensures (add_then a (add_then c.add_byte-stop.ensures (add_then b
    (add_then c.add_byte-limit.ensures after))))) (lit< tt)

pub part-on-requires-clause-ends : goal.part-on-requires-clause-ends
part-on-requires-clause-ends c =
    let (F, is_f, few_f, f) = c.put-gap.ensures in
    let (A, is_a, few_a, a) = c.put-comma.ensures in
    let (B, is_b, few_b, b) = c.put_new-close.ensures in
    let (T, is_t, few_t, t) = c.put-mark.ensures in
    let (M, is_m, few_m, m) = c.put-end.ensures in
    let opened = add_then (add_then c.add_byte-begin.ensures a) c.add_byte-stop.ensures in
    cut_behind c.in_ok-all.ensures.same c.in_ok-all.ensures.utf8 (add_then (add_then f opened) b) c.add_byte-limit.ensures
    (add_then (add_then t c.add_byte-point.ensures) m) (lit< tt)

pub part-to-requires-clause-order : goal.part-to-requires-clause-order
part-to-requires-clause-order c = let (T, is_t, few_t, t) = c.put-mark.ensures in omega (arith, t.size)

pub part-to-requires-clause-begins : goal.part-to-requires-clause-begins
part-to-requires-clause-begins c =
    let (F, is_f, few_f, f) = c.put-gap.ensures in
    let (A, is_a, few_a, a) = c.put-comma.ensures in
    let (B, is_b, few_b, b) = c.put_new-close.ensures in
    let (T, is_t, few_t, t) = c.put-mark.ensures in
    let (M, is_m, few_m, m) = c.put-end.ensures in
    let opened = add_then (add_then c.add_byte-begin.ensures a) c.add_byte-stop.ensures in
    cut_behind c.in_ok-all.ensures.same c.in_ok-all.ensures.utf8 (add_then (add_then f opened) b) c.add_byte-limit.ensures
    (add_then (add_then t c.add_byte-point.ensures) m) (lit< tt)

pub part-to-requires-clause-ends : goal.part-to-requires-clause-ends
part-to-requires-clause-ends c =
    let (F, is_f, few_f, f) = c.put-gap.ensures in
    let (A, is_a, few_a, a) = c.put-comma.ensures in
    let (B, is_b, few_b, b) = c.put_new-close.ensures in
    let (T, is_t, few_t, t) = c.put-mark.ensures in
    let (M, is_m, few_m, m) = c.put-end.ensures in
    let opened = add_then (add_then c.add_byte-begin.ensures a) c.add_byte-stop.ensures in
    cut_before c.in_ok-all.ensures.same (add_then (add_then (add_then (add_then f opened) b) c.add_byte-limit.ensures) t)
    (add_then c.add_byte-point.ensures m) (lit< tt)

pub part-at-requires-clause-order : goal.part-at-requires-clause-order
part-at-requires-clause-order c = let (B, is_b, few_b, b) = c.put_new-close.ensures in omega (arith, b.size)

pub part-at-requires-clause-begins : goal.part-at-requires-clause-begins
part-at-requires-clause-begins c =
    let (F, is_f, few_f, f) = c.put-gap.ensures in
    let (A, is_a, few_a, a) = c.put-comma.ensures in
    let (B, is_b, few_b, b) = c.put_new-close.ensures in
    let (T, is_t, few_t, t) = c.put-mark.ensures in
    let (M, is_m, few_m, m) = c.put-end.ensures in
    let after = add_then (add_then t c.add_byte-point.ensures) m in
    cut_behind c.in_ok-all.ensures.same c.in_ok-all.ensures.utf8 (add_then (add_then f c.add_byte-begin.ensures) a) c.add_byte-stop.ensures
    (add_then b (add_then c.add_byte-limit.ensures after)) (lit< tt)

pub part-at-requires-clause-ends : goal.part-at-requires-clause-ends
part-at-requires-clause-ends c =
    let (F, is_f, few_f, f) = c.put-gap.ensures in
    let (A, is_a, few_a, a) = c.put-comma.ensures in
    let (B, is_b, few_b, b) = c.put_new-close.ensures in
    let (T, is_t, few_t, t) = c.put-mark.ensures in
    let (M, is_m, few_m, m) = c.put-end.ensures in
    let opened = add_then (add_then c.add_byte-begin.ensures a) c.add_byte-stop.ensures in
    cut_before c.in_ok-all.ensures.same (add_then (add_then f opened) b) (add_then c.add_byte-limit.ensures
    (add_then (add_then t c.add_byte-point.ensures) m)) (lit< tt)

pub part-margin-requires-clause-order : goal.part-margin-requires-clause-order
part-margin-requires-clause-order c = let (M, is_m, few_m, m) = c.put-end.ensures in omega (arith, m.size)

pub part-margin-requires-clause-begins : goal.part-margin-requires-clause-begins
part-margin-requires-clause-begins c =
    let (F, is_f, few_f, f) = c.put-gap.ensures in
    let (A, is_a, few_a, a) = c.put-comma.ensures in
    let (B, is_b, few_b, b) = c.put_new-close.ensures in
    let (T, is_t, few_t, t) = c.put-mark.ensures in
    let (M, is_m, few_m, m) = c.put-end.ensures in
    let opened = add_then (add_then c.add_byte-begin.ensures a) c.add_byte-stop.ensures in
    cut_behind c.in_ok-all.ensures.same c.in_ok-all.ensures.utf8 (add_then (add_then (add_then (add_then f opened) b) c.add_byte-limit.ensures) t)
    c.add_byte-point.ensures m (lit< tt)

pub part-margin-requires-clause-ends : goal.part-margin-requires-clause-ends
part-margin-requires-clause-ends c =
    let (F, is_f, few_f, f) = c.put-gap.ensures in
    let (A, is_a, few_a, a) = c.put-comma.ensures in
    let (B, is_b, few_b, b) = c.put_new-close.ensures in
    let (T, is_t, few_t, t) = c.put-mark.ensures in
    let (M, is_m, few_m, m) = c.put-end.ensures in
    let opened = add_then (add_then c.add_byte-begin.ensures a) c.add_byte-stop.ensures in
    cut_last c.in_ok-all.ensures.same (add_then (add_then (add_then (add_then (add_then (add_then f opened) b) c.add_byte-limit.ensures) t)
    c.add_byte-point.ensures) m)

pub returns : goal.returns
returns c =
    let k = c.args.k.now in
    let n = c.args.n.now in
    let scale = c.args.scale in
    let (F, is_f, few_f, f) = c.put-gap.ensures in
    let (A, is_a, few_a, a) = c.put-comma.ensures in
    let (B, is_b, few_b, b) = c.put_new-close.ensures in
    let (T, is_t, few_t, t) = c.put-mark.ensures in
    let (M, is_m, few_m, m) = c.put-end.ensures in
    let opened = add_then (add_then c.add_byte-begin.ensures a) c.add_byte-stop.ensures in
    let on = add_then (add_then opened b) c.add_byte-limit.ensures in
    let last = add_then c.add_byte-point.ensures m in
    let after = add_then t last in
    let is = c.in_ok-all.ensures.same in
    record {
      from_is = part_is (IsValueText scale.value (value_at (margin_function k.after) (value k.time))) is c.part-from.ensures (none_added c.args.room.now 0) f
          (add_then on after) is_f;
      on_is = part_is (IsGapText scale.time (value k.time) (value n.time)) is c.part-on.ensures f on after (A, B, is_a, is_b, refl);
      to_is = part_is (IsValueText scale.value (value_at (margin_function k.after) (value n.time))) is c.part-to.ensures (add_then f on) t last is_t;
      at_is = part_is (IsNumberText scale.time (value n.time)) is c.part-at.ensures (add_then f opened) b (add_then c.add_byte-limit.ensures after) is_b;
      margin_is = part_is (IsValueText scale.value (value_at (margin_function n.point) (value n.time))) is c.part-margin.ensures
          (add_then (add_then (add_then f on) t) c.add_byte-point.ensures) m (none_added _ _) is_m;
    }
