-- The fields of a header, in order.
use Rattle.std.proofs.Common.{◌≡◌, ◌∷◌, [], ◌+◌, ◌≤◌, length, ap, ◌∙◌, sym, subst, arith}
use Rattle.std.specs.Prelude.{option_copied, Some}
use Rattle.std.proofs.lemmas.Result.{err_from_is_err_and}
use Rattle.std.proofs.lemmas.List.{nil_from_length, length_push}
use Rattle.trace_reader.specs.LineParts.{fields_of}
use Rattle.trace_reader.specs.Headings.{Opened, AreColumnsLeft}
use Rattle.trace_reader.proofs.HeadingLemmas.{after_first_field, start_left, left_more, none_left, sound_left}
use Rattle.trace_reader.proofs.HeadingLemmas.{fault_left, first_bad, later_bad, header_sound, heading_is}
use Rattle.trace_reader.proofs.heading.read_heading.Goals as goal

pub loop-place-init : goal.loop-place-init
loop-place-init c =
    let cut = c.cut_field.ensures in
    let others = fields_of (option_copied c.cut_field.result.1) in
    let e : after_first_field (fields_of (Some c.args.text.now)) ≡ others = ap after_first_field cut in
    let n : length (fields_of (Some c.args.text.now)) ≡ length others + 1 = ap length cut ∙ omega arith in
    let room : length c.args.room.columns ≡ 0 = ap (λ (o : Opened). length o.columns) c.requires.room in (
      omega (arith, n, c.count_fields-count.ensures.value),
      omega (arith, room),
      subst (λ f. AreColumnsLeft f 2 others c.args.room) (sym e) (start_left others c.args.room c.requires.room),
    )

pub returns-in_err-time : goal.returns-in_err-time
returns-in_err-time c =
    let fields = fields_of (Some c.args.text.now) in
    let few : length fields ≤ 65 = omega (arith, c.count_fields-count.ensures.value, c.if-count-gt65.false) in
    let p = err_from_is_err_and c.from_residual.result c.from_residual.ensures.1 in
    rw (p.1, p.2) (first_bad fields c.cut_field.result.0.now
    (fields_of (option_copied c.cut_field.result.1)) c.cut_field.ensures few c.in_err-time.field-0.0 c.in_err-time.ensures)

pub returns-in_err-read_column : goal.returns-in_err-read_column
returns-in_err-read_column c =
    let fields = fields_of (Some c.args.text.now) in
    let cut = c.cut_field.ensures in
    let few : length fields ≤ 65 = omega (arith, c.count_fields-count.ensures.value, c.if-count-gt65.false) in
    let others = fields_of (option_copied c.cut_field.result.1) in
    let e : after_first_field fields ≡ others = ap after_first_field cut in
    let left : fields_of (option_copied c.loop-place.left)
    ≡ c.cut_field-in-loop-place.result.0.now ∷ fields_of (option_copied c.cut_field-in-loop-place.result.1) =
    ap (λ o. fields_of (option_copied o)) c.in-Some.is ∙ c.cut_field-in-loop-place.ensures in
    let l = subst (λ f. AreColumnsLeft f c.loop-place.place (fields_of (option_copied c.loop-place.left)) c.loop-place.room) e c.loop-place.invariant.2 in
    let p = err_from_is_err_and c.from_residual-in_err-read_column.result c.from_residual-in_err-read_column.ensures.1 in
    rw (p.1, p.2) (later_bad fields c.cut_field.result.0.now others cut few c.in_ok-time.ensures.2 c.in_err-read_column.field-0.0
    (fault_left others c.loop-place.place (fields_of (option_copied c.loop-place.left)) c.loop-place.room l c.cut_field-in-loop-place.result.0.now
    (fields_of (option_copied c.cut_field-in-loop-place.result.1)) left c.in_err-read_column.field-0.0 c.in_err-read_column.ensures))

pub loop-place-preserved : goal.loop-place-preserved
loop-place-preserved c =
    let fields = after_first_field (fields_of (Some c.args.text.now)) in
    let field = c.cut_field-in-loop-place.result.0.now in
    let more = fields_of (option_copied c.cut_field-in-loop-place.result.1) in
    let left : fields_of (option_copied c.loop-place.left) ≡ field ∷ more =
    ap (λ o. fields_of (option_copied o)) c.in-Some.is ∙ c.cut_field-in-loop-place.ensures in
    let n : length (fields_of (option_copied c.loop-place.left)) ≡ length more + 1 = ap length left ∙ omega arith in
    let m = c.in_ok-read_column.ensures in
    let w : length c.read_column.new.room.columns ≡ length c.loop-place.room.columns + 1 =
    ap (λ (o : Opened). length o.columns) m.added ∙ length_push c.loop-place.room.columns m.column in
    let old = c.loop-place.invariant in (
      omega (arith, n, old.0),
      omega (arith, w, old.1),
      left_more fields c.loop-place.place (c.loop-place.place + 1) field more c.loop-place.room c.read_column.new.room
          (subst (λ t. AreColumnsLeft fields c.loop-place.place t c.loop-place.room) left old.2) m (omega arith),
    )

pub read_column-requires : goal.read_column-requires
read_column-requires c = omega (arith, c.loop-place.invariant.1, c.loop-place-test.true, c.if-count-gt65.false)

pub returns : goal.returns
returns c =
    let fields = fields_of (Some c.args.text.now) in
    let cut = c.cut_field.ensures in
    let few : length fields ≤ 65 = omega (arith, c.count_fields-count.ensures.value, c.if-count-gt65.false) in
    let others = fields_of (option_copied c.cut_field.result.1) in
    let e : after_first_field fields ≡ others = ap after_first_field cut in
    let left = fields_of (option_copied c.loop-place.left) in
    let none : left ≡ [] = nil_from_length left (omega (arith, c.loop-place.invariant.0, c.loop-place.auto.place-end, c.loop-place-test.false)) in
    let l = subst (λ f. AreColumnsLeft f c.loop-place.place left c.loop-place.room) e c.loop-place.invariant.2 in
    let columns = none_left others c.loop-place.place left c.loop-place.room l none in
    record {
      read = rw c.heading.ensures.heading (heading_is fields c.cut_field.result.0.now others (record {
        time_digits = c.in_ok-time.time;
        columns = c.loop-place.room.columns;
        digits = c.loop-place.room.digits;
      }) cut c.in_ok-time.ensures.0 columns);
      scale = c.heading.ensures.scale;
      sound = header_sound fields c.cut_field.result.0.now others cut few c.in_ok-time.ensures.2
          (sound_left others c.loop-place.place left c.loop-place.room l none);
    }
