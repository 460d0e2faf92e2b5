use Rattle.std.proofs.lemmas.Result.{IfOk-weaker}
use Rattle.serde_json.specs.View.{view}
use Rattle.stl_syntax.specs.Texts.{IsSpanText}
use Rattle.report.proofs.StringValues.{gathered}
use Rattle.report.proofs.entry.span_value.Goals as goal

pub returns : goal.returns
returns c =
    IfOk-weaker c.string_value.result _ _
    (λ v h. gathered (IsSpanText c.args.scale c.args.on.now) c.clear.new.self c.put_span.new.text c.bytes.result.now (view v) c.clear.ensures
    c.in_ok-put_span.ensures.ok c.bytes.ensures h) c.string_value.ensures
