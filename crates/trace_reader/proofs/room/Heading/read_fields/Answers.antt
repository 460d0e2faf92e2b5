-- The fields of a row, in order.
use Rattle.std.proofs.Common.{◌≡◌, ◌∷◌, ◌++◌, [], ◌+◌, ◌≤◌, length, get_or, drop, ap, ◌∙◌, sym, subst, arith, w32, pos, negsuc}
use Rattle.std.specs.Prelude.{option_copied, Some, All, nat_abs}
use Rattle.std.proofs.lemmas.Int.{to_z-of_z}
use Rattle.std.proofs.lemmas.Result.{err_from_is_err_and}
use Rattle.std.proofs.lemmas.List.{length_push, drop_more, drop_all}
use Rattle.std.proofs.lemmas.List.Elements.{All-push}
use Rattle.stl_syntax.specs.Trace.{Row}
use Rattle.stl_syntax.specs.declared.scale.Scale.{Scale}
use Rattle.trace_reader.specs.LineParts.{fields_of}
use Rattle.trace_reader.specs.FieldFaults.{IsFieldRead}
use Rattle.trace_reader.specs.TraceRefusals.{NumberFault}
use Rattle.trace_reader.specs.RowLines.{AreValuesLeft}
use Rattle.trace_reader.proofs.DigitLemmas.{value_fits}
use Rattle.trace_reader.proofs.HeadingLemmas.{after_first_field}
use Rattle.trace_reader.proofs.RowLemmas.{values_more, values_bad, values_read, values_sound, row_is, value_bad}
use Rattle.trace_reader.proofs.RowLemmas.{numbers_sound, left_some, left_none, is_some_copied, row_made}
use Rattle.trace_reader.proofs.room.Heading.read_fields.Goals as goal

pub returns-in_err-read_value : goal.returns-in_err-read_value
returns-in_err-read_value c =
    let p = err_from_is_err_and c.from_residual-in_err-read_value.result c.from_residual-in_err-read_value.ensures.1 in
    let self = c.args.self.now in
    let fields = fields_of (Some c.args.text.now) in
    let others = fields_of (option_copied c.cut_field.result.1) in
    let i = c.loop-most.most-index in
    let items = c.digits-most-items.result.now in
    let e = c.digits-most-items.ensures.value in
    let m = get_or items i 0 in
    let ds : drop i self.heading.digits ≡ m ∷ drop (i + 1) self.heading.digits =
    ap (drop i) (sym e) ∙ (drop_more items i 0 c.loop-most-test.true ∙ ap (λ x. m ∷ drop (i + 1) x) e) in
    let left : fields_of (option_copied c.loop-most.left)
    ≡ c.cut_field-in-loop-most.result.0.now ∷ fields_of (option_copied c.cut_field-in-loop-most.result.1) =
    ap (λ o. fields_of (option_copied o)) c.in-Some.is ∙ c.cut_field-in-loop-most.ensures in
    let l = subst (λ f. AreValuesLeft self.scale self.heading.digits f c.loop-most.place (drop i self.heading.digits)
    (fields_of (option_copied c.loop-most.left)) c.loop-most.row.values)
    (ap after_first_field c.cut_field.ensures) c.loop-most.invariant.left in
    let bad = subst (λ (s : Scale).
    NumberFault s.value m (negsuc 16777215) (pos 16777216) c.loop-most.place c.cut_field-in-loop-most.result.0.now c.in_err-read_value.field-0.0)
    c.scale-scale.ensures.value c.in_err-read_value.ensures.cases in
    let sound =
    (subst (λ (s : Scale). IsFieldRead s.time self.heading.time_digits (pos 0) (pos 4294967295) 1 c.cut_field.result.0.now (pos c.in_ok-time.time))
    c.scale-scale.ensures.value
    (subst (λ n. IsFieldRead c.scale-scale.result.time n (pos 0) (pos 4294967295) 1 c.cut_field.result.0.now (pos c.in_ok-time.time))
    c.time_digits.ensures.value c.in_ok-time.ensures.cases)).sound in
    rw (p.1, p.2) (λ width. value_bad self.scale self.heading fields c.cut_field.result.0.now others c.cut_field.ensures c.in_err-read_value.field-0.0 sound
    (values_bad self.scale self.heading.digits others c.loop-most.place (drop i self.heading.digits)
    (fields_of (option_copied c.loop-most.left)) c.loop-most.row.values l m (drop (i + 1) self.heading.digits)
    c.cut_field-in-loop-most.result.0.now (fields_of (option_copied c.cut_field-in-loop-most.result.1)) c.in_err-read_value.field-0.0 ds left bad))

pub loop-most-preserved : goal.loop-most-preserved
loop-most-preserved c =
    let self = c.args.self.now in
    let fields = after_first_field (fields_of (Some c.args.text.now)) in
    let i = c.loop-most.most-index in
    let items = c.digits-most-items.result.now in
    let e = c.digits-most-items.ensures.value in
    let m = get_or items i 0 in
    let more = fields_of (option_copied c.cut_field-in-loop-most.result.1) in
    let v = c.in_ok-read_value.field-0 in
    let ds : drop i self.heading.digits ≡ m ∷ drop (i + 1) self.heading.digits =
    ap (drop i) (sym e) ∙ (drop_more items i 0 c.loop-most-test.true ∙ ap (λ x. m ∷ drop (i + 1) x) e) in
    let left : fields_of (option_copied c.loop-most.left) ≡ c.cut_field-in-loop-most.result.0.now ∷ more =
    ap (λ o. fields_of (option_copied o)) c.in-Some.is ∙ c.cut_field-in-loop-most.ensures in
    let n : length (fields_of (option_copied c.loop-most.left)) ≡ length more + 1 = ap length left ∙ omega arith in
    let read = subst (λ (s : Scale). IsFieldRead s.value m (negsuc 16777215) (pos 16777216) c.loop-most.place c.cut_field-in-loop-most.result.0.now v)
    c.scale-scale.ensures.value c.in_ok-read_value.ensures.cases in
    let z = to_z-of_z w32 v (value_fits v c.in_ok-read_value.ensures.small) in
    let added : c.add.new.self ≡ row_made c.loop-most.row.time (c.loop-most.row.values ++ v ∷ []) =
    c.add.ensures ∙ ap (λ w. row_made c.loop-most.row.time (c.loop-most.row.values ++ w ∷ [])) z in
    let old = c.loop-most.invariant in
    let values : c.add.new.self.values ≡ c.loop-most.row.values ++ v ∷ [] = ap (λ (r : Row). r.values) added in
    record {
      left = subst (λ t. AreValuesLeft self.scale self.heading.digits fields (c.loop-most.place + 1) (drop (i + 1) self.heading.digits) more t) (sym values)
          (values_more self.scale self.heading.digits fields c.loop-most.place (drop i self.heading.digits)
          (fields_of (option_copied c.loop-most.left)) c.loop-most.row.values old.left
          (c.loop-most.place + 1) m (drop (i + 1) self.heading.digits) c.cut_field-in-loop-most.result.0.now more v ds left read (omega arith));
      place = omega (arith, old.place);
      count = omega (arith, old.count, n);
      width = ap length values ∙ (length_push c.loop-most.row.values v ∙ omega (arith, old.width));
      time = ap (λ (r : Row). r.time) added ∙ old.time;
      small = subst (λ t. All (λ x. nat_abs x ≤ 16777216) t) (sym values)
          (All-push (λ x. nat_abs x ≤ 16777216) c.loop-most.row.values v old.small c.in_ok-read_value.ensures.small);
    }

pub returns-then-is_some : goal.returns-then-is_some
returns-then-is_some c = λ width.
    let n = left_some (option_copied c.loop-most.left) (is_some_copied c.loop-most.left ∙ sym c.if-is_some.ensures) in
    absurd (omega (arith, width, n, c.loop-most.invariant.count, c.loop-most-test.false, c.digits-most-items.ensures.width))

pub returns : goal.returns
returns c =
    let self = c.args.self.now in
    let fields = fields_of (Some c.args.text.now) in
    let others = fields_of (option_copied c.cut_field.result.1) in
    let i = c.loop-most.most-index in
    let e = c.digits-most-items.ensures.value in
    let inv = c.loop-most.invariant in
    let left = fields_of (option_copied c.loop-most.left) in
    let none : left ≡ [] = left_none (option_copied c.loop-most.left) (is_some_copied c.loop-most.left ∙ sym c.if-is_some.ensures) in
    let count : length left ≡ 0 = ap length none in
    let past : drop i self.heading.digits ≡ [] = drop_all i self.heading.digits (omega (arith, ap length e, c.loop-most-test.false)) in
    let l = subst (λ f. AreValuesLeft self.scale self.heading.digits f c.loop-most.place (drop i self.heading.digits) left c.loop-most.row.values)
    (ap after_first_field c.cut_field.ensures) inv.left in
    let first = subst (λ (s : Scale).
    IsFieldRead s.time self.heading.time_digits (pos 0) (pos 4294967295) 1 c.cut_field.result.0.now (pos c.in_ok-time.time)) c.scale-scale.ensures.value
    (subst (λ n. IsFieldRead c.scale-scale.result.time n (pos 0) (pos 4294967295) 1 c.cut_field.result.0.now (pos c.in_ok-time.time))
    c.time_digits.ensures.value c.in_ok-time.ensures.cases) in
    let time : c.in_ok-time.time ≡ c.loop-most.row.time = ap (λ (r : Row). r.time) (sym c.begin.ensures) ∙ sym inv.time in
    let known = subst (λ t. IsFieldRead self.scale.time self.heading.time_digits (pos 0) (pos 4294967295) 1 c.cut_field.result.0.now (pos t)) time first in
    let width : length c.loop-most.row.values ≡ length self.heading.columns =
    omega (arith, inv.width, c.digits-most-items.ensures.width, c.loop-most-test.false, c.loop-most.auto.most-index-end) in
    record {
      read = row_is self.scale self.heading fields c.cut_field.result.0.now others c.cut_field.ensures c.loop-most.row known.value
          (values_read self.scale self.heading.digits others c.loop-most.place (drop i self.heading.digits) left c.loop-most.row.values l past none);
      width = omega (arith, inv.count, count, width, inv.width);
      values = width;
      sound = numbers_sound self.scale self.heading fields c.cut_field.result.0.now others c.cut_field.ensures known.sound
          (values_sound self.scale self.heading.digits others c.loop-most.place (drop i self.heading.digits) left c.loop-most.row.values l past);
      range = record { time = subst (λ t. t ≤ 4294967295) time c.in_ok-time.ensures.small; values = inv.small };
    }
