-- The time, and its decimals.
use Rattle.std.proofs.Common.{◌≡◌, ◌∙◌, sym}
use Rattle.std.specs.Prelude.{codes}
use Rattle.trace_reader.proofs.HeadingLemmas.{is_time_name, time_is, time_sound, time_bad}
use Rattle.trace_reader.proofs.heading.read_time_field.Goals as goal

pub returns-in-Some : goal.returns-in-Some
returns-in-Some c =
    let f = c.args.field.now in
    let name = c.cut_name.result.0.now in
    let rest = c.cut_name.result.1.now in
    let same : name ≡ codes "time" = is_time_name name (sym c.is_time.ensures ∙ c.if-not-is_time.false) in
    let t = time_is f name rest c.in-Some.digits c.cut_name.ensures.whole same c.in-Some.ensures.0 in
    (t, c.in-Some.ensures.1, time_sound f name c.in-Some.digits c.cut_name.ensures.name same t)

pub returns-in-None : goal.returns-in-None
returns-in-None c =
    let name = c.cut_name.result.0.now in
    let same : name ≡ codes "time" = is_time_name name (sym c.is_time.ensures ∙ c.if-not-is_time.false) in
    time_bad c.args.field.now name c.cut_name.result.1.now c.cut_name.ensures.whole c.cut_name.ensures.name same c.in-None.ensures
