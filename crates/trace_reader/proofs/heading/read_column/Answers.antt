-- A name, a mode and decimals.
use Rattle.std.proofs.Common.{◌∙◌, sym, true, false, refl}
use Rattle.trace_reader.specs.TraceText.{IsName}
use Rattle.trace_reader.proofs.HeadingLemmas.{column_is, column_bad, column_same, column_sound, among_time, among_columns}
use Rattle.trace_reader.proofs.heading.read_column.Goals as goal
use Rattle.trace_reader.proofs.heading.read_column.Goals.{then-is_time-via-then-is_time, then-is_time-via-else-is_time+then-has}

pub returns-in_default : goal.returns-in_default
returns-in_default c = λ earlier h.
    let name = c.cut_name.result.0.now in
    let ok : IsName name = c.if-not-is_name.ensures.0 refl in
    column_bad c.args.field.now name c.cut_name.result.1.now c.args.place earlier c.cut_name.ensures.whole c.cut_name.ensures.name ok c.in_default.ensures

pub returns-then-is_time : goal.returns-then-is_time
returns-then-is_time c = λ earlier h.
    let f = c.args.field.now in
    let name = c.cut_name.result.0.now in
    let rest = c.cut_name.result.1.now in
    let ok : IsName name = c.if-not-is_name.ensures.0 refl in
    let (m, d, e, md, dd, few) = c.in-Some.ensures in
    let is = column_is f name rest m d c.in-Some.step c.in-Some.digits c.cut_name.ensures.whole ok e md dd in
    elim c.then-is_time.branch [
      | then-is_time-via-then-is_time w ↦
          column_same f name c.args.place earlier (record { name = name; step = c.in-Some.step }) c.in-Some.digits c.cut_name.ensures.name ok is
          (among_time name earlier c.args.room.now.columns h (sym c.is_time.ensures ∙ w.if-is_time.true))
      | then-is_time-via-else-is_time+then-has w ↦
          column_same f name c.args.place earlier (record { name = name; step = c.in-Some.step }) c.in-Some.digits c.cut_name.ensures.name ok is
          (among_columns name earlier c.args.room.now.columns h (sym c.is_time.ensures ∙ w.if-is_time.false) true (sym w.has.ensures ∙ w.if-has.true))
    ]

pub returns : goal.returns
returns c =
    let f = c.args.field.now in
    let name = c.cut_name.result.0.now in
    let rest = c.cut_name.result.1.now in
    let ok : IsName name = c.if-not-is_name.ensures.0 refl in
    let (m, d, e, md, dd, few) = c.in-Some.ensures in
    let is = column_is f name rest m d c.in-Some.step c.in-Some.digits c.cut_name.ensures.whole ok e md dd in
    record {
      column = record { name = name; step = c.in-Some.step };
      digits = c.in-Some.digits;
      written = is;
      added = c.add.ensures;
      sound = λ i earlier h. column_sound f name i earlier (record { name = name; step = c.in-Some.step }) c.in-Some.digits c.cut_name.ensures.name ok is
          (among_columns name earlier c.args.room.now.columns h (sym c.is_time.ensures ∙ c.if-is_time.false) false (sym c.has.ensures ∙ c.if-has.false));
      named = c.cut_name.ensures.name;
    }
