-- What `json` writes in smaller ticks.
use Rattle.std.proofs.Common.{◌≡◌, ℕ, ◌+◌, ◌^◌, ◌<◌, List, [], ◌∷◌, map, refl}
use Rattle.serde_json.specs.Data.{Items}
use Rattle.stl_syntax.specs.Trace.{start}
use Rattle.stl_syntax.specs.Formula.{Formula, root}
use Rattle.stl_syntax.specs.declared.scale.Scale.{Scale}
use Rattle.stl_syntax.specs.declared.items.Verdict.{Verdict}
use Rattle.stl_syntax.specs.declared.items.Item.{Item}
use Rattle.stl_syntax.specs.Scaling.{nodes_for}
use Rattle.report.specs.Report.{json}
use Rattle.report.specs.Json.{AreVerdictData, AreItemData}
use Rattle.unit_laws.specs.Units.{finer, KeepsItsText}
use Rattle.bounds.proofs.NearTimes.{ahead}
use Rattle.unit_laws.proofs.FinerTrees.{root_finer}
use Rattle.unit_laws.proofs.FinerRows.{some_power, finer_counts}
use Rattle.unit_laws.proofs.FinerTexts.{time_text_by, value_text_by}
use Rattle.unit_laws.proofs.FinerVerdicts.{verdicts_by, verdicts_describe, span_text, told_at}
use Rattle.unit_laws.proofs.KnotsChange.{knots_by, describes_by}
use Rattle.unit_laws.proofs.FinerKnots.{to_clock}
use Rattle.unit_laws.proofs.FinerItems.{item_by}
use Rattle.unit_laws.proofs.FinerExplain.{explained_by}
use Rattle.unit_laws.proofs.ChangedTables.{margin_data_by}

module _ (k : ℕ) (p : 0 < 10 ^ k) (scale other : Scale) (is : other.time ≡ scale.time + k) where
  verdict_data_by : (verdicts : List Verdict) (items : Items) → AreVerdictData scale verdicts items
      → AreVerdictData other (verdicts_by (10 ^ k) (ahead 0) p verdicts) items
  verdict_data_by [] items h = h
  verdict_data_by (v ∷ verdicts) items (on, later, h, rest, e) = (on, later, span_text k p scale other is v.on on h, verdict_data_by verdicts later rest, e)

  item_data_by : (f : Formula) (more : List Item) (items : Items) → AreItemData scale f more items
      → AreItemData other f (map (item_by (10 ^ k) (ahead 0) p) more) items
  item_data_by f [] items h = h
  item_data_by f (x ∷ more) items (a, at, (name, on, later, named, span, rest, e)) =
      (a, at, (name, on, later, named, span_text k p scale other is x.on on span, item_data_by f more later rest, e))

-- `json` writes the same text in smaller ticks
pub json_keeps_its_text : KeepsItsText json
json_keeps_its_text f tr k m ok ft fv text (verdicts, knots, items, holds, report, told, margins, explained, truth, data_is, is) =
    let p = root (nodes_for f tr) in
    let kp = some_power k in
    let mp = some_power m in
    let c = finer_counts k m tr ok in
    let same = root_finer f tr.header.scale k m ft fv in
    let fine = (finer k m tr).header.scale in
    let change = to_clock (10 ^ k) (ahead 0) (10 ^ m) kp mp c p in
    let (printed, entries, knot_entries, spans, printed_is, entries_are, knots_are, spans_are, object_is) = data_is in (
      verdicts_by (10 ^ k) (ahead 0) kp verdicts,
      knots_by change knots,
      map (item_by (10 ^ k) (ahead 0) kp) items,
      holds,
      report,
      rw same (verdicts_describe (10 ^ k) (ahead 0) (10 ^ m) kp mp c p verdicts told),
      rw same (describes_by change knots margins),
      explained_by f tr k m ok ft fv items explained,
      rw same (told_at (10 ^ k) (ahead 0) (10 ^ m) kp mp c p holds (start tr) (start (finer k m tr)) c.starts truth),
      (
        printed,
        entries,
        knot_entries,
        spans,
        printed_is,
        item_data_by k kp tr.header.scale fine refl f items entries entries_are,
        margin_data_by change tr.header.scale fine (λ t x h. time_text_by tr.header.scale.time k t x h)
            (λ v x h. value_text_by tr.header.scale.value m v x h) knots knot_entries knots_are,
        verdict_data_by k kp tr.header.scale fine refl verdicts spans spans_are,
        object_is,
      ),
      is,
    )
