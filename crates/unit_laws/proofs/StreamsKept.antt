-- What each stream writes it writes in smaller ticks too.
use Rattle.std.proofs.Common.{◌≡◌, ℕ, ◌^◌, Bool, List, map, sym, refl, subst}
use Rattle.stl_syntax.specs.Trace.{Header, Row, Trace}
use Rattle.stl_syntax.specs.Formula.{Formula, Subformula, root}
use Rattle.stl_syntax.specs.Stream.{IsStreamText}
use Rattle.stl_syntax.specs.EarlyText.{IsEarlyText}
use Rattle.online_nodes.specs.MarginStream.{IsMarginStream}
use Rattle.stl_syntax.specs.WellFormed.{IsWellFormed}
use Rattle.stl_syntax.specs.Scaling.{nodes_for}
use Rattle.answer_lines.proofs.StreamTexts.{stream_once, early_once}
use Rattle.trace_stream.specs.Streams.{verdicts, early, margins}
use Rattle.trace_stream.proofs.MarginTexts.{margin_stream_once}
use Rattle.unit_laws.specs.Units.{finer_row, finer}
use Rattle.unit_laws.specs.Streams.{StreamsAreKept, StreamsOweOneText, EarlyIsOfUnits, MarginsAreOfUnits, WatchIsOfUnits, ReadStreamsAreOfUnits}
use Rattle.unit_laws.proofs.FinerTrees.{finer_tree, root_finer}
use Rattle.unit_laws.proofs.FinerTraces.{row_by}
use Rattle.unit_laws.proofs.FinerRows.{some_power, rows_finer}
use Rattle.unit_laws.proofs.FinerTexts.{time_text_by, time_text_back, value_text_by, value_text_back}
use Rattle.unit_laws.proofs.FinerVerdicts.{verdict_lines_by}
use Rattle.unit_laws.proofs.FinerStreams.{stream_by}
use Rattle.unit_laws.proofs.FinerMarginStreams.{margin_stream_by, margin_stream_back}
use Rattle.unit_laws.proofs.FinerEarly.{early_by, early_back}
use Rattle.unit_laws.proofs.CalmFormulas.{root_calm}
use Rattle.unit_laws.proofs.CoarserVerdicts.{lines_back}
use Rattle.unit_laws.proofs.ReadRanges.{read_rows, read_scale}
use Rattle.unit_laws.proofs.WatchBack.{stream_back}

module _ (f : Formula) (tr : Trace) (k m : ℕ) where
  abbrev p : Subformula
  p = root (nodes_for f tr)

  abbrev fine : Header
  fine = (finer k m tr).header

  module _ (Text : Subformula → Header → List Row → Bool → List ℕ → Type 0) (ended : Bool) (text : List ℕ)
      (same : root (nodes_for f (finer k m tr)) ≡ finer_tree (10 ^ k) (10 ^ m) p) where
    -- a text of the tree and the rows by the clock is one of the formula and the rows in smaller ticks
    counted : Text (finer_tree (10 ^ k) (10 ^ m) p) fine (map (row_by (10 ^ k) 0 (10 ^ m) (some_power k) (some_power m)) tr.rows) ended text
        → Text (root (nodes_for f (finer k m tr))) fine (map (finer_row k m) tr.rows) ended text
    counted h =
        subst (λ t. Text t fine (map (finer_row k m) tr.rows) ended text) (sym same)
        (subst (λ rows. Text (finer_tree (10 ^ k) (10 ^ m) p) fine rows ended text) (sym (rows_finer k m tr.rows)) h)

    -- and the other way round
    counted_back : Text (root (nodes_for f (finer k m tr))) fine (map (finer_row k m) tr.rows) ended text
        → Text (finer_tree (10 ^ k) (10 ^ m) p) fine (map (row_by (10 ^ k) 0 (10 ^ m) (some_power k) (some_power m)) tr.rows) ended text
    counted_back h =
        subst (λ rows. Text (finer_tree (10 ^ k) (10 ^ m) p) fine rows ended text) (rows_finer k m tr.rows)
        (subst (λ t. Text t fine (map (finer_row k m) tr.rows) ended text) same h)

-- each stream keeps its text
pub streams_are_kept : StreamsAreKept
streams_are_kept verdicts f tr k m ended ok ft fv text h =
    counted f tr k m IsStreamText ended text (root_finer f tr.header.scale k m ft fv)
    (stream_by (10 ^ k) 0 (10 ^ m) (some_power k) (some_power m) (root (nodes_for f tr)) tr.header (finer k m tr).header.scale
    (λ told lines t. verdict_lines_by k (some_power k) tr.header.scale (finer k m tr).header.scale refl told lines t) tr.rows ended text ok.rows h)
streams_are_kept early f tr k m ended ok ft fv text h =
    counted f tr k m IsEarlyText ended text (root_finer f tr.header.scale k m ft fv)
    (early_by (10 ^ k) 0 (10 ^ m) (some_power k) (some_power m) (root (nodes_for f tr)) tr.header (finer k m tr).header.scale
    (λ t x g. time_text_by tr.header.scale.time k t x g) tr.rows ended text ok.rows h)
streams_are_kept margins f tr k m ended ok ft fv text h =
    counted f tr k m IsMarginStream ended text (root_finer f tr.header.scale k m ft fv)
    (margin_stream_by (10 ^ k) 0 (10 ^ m) (some_power k) (some_power m) (root (nodes_for f tr)) tr.header (finer k m tr).header.scale
    (λ t x g. time_text_by tr.header.scale.time k t x g) (λ v x g. value_text_by tr.header.scale.value m v x g) tr.rows ended text ok.rows h)

-- and owes no other
pub streams_owe_one_text : StreamsOweOneText
streams_owe_one_text verdicts f tr k m ended ok ft fv text other h g =
    stream_once (root (nodes_for f (finer k m tr))) (finer k m tr).header (finer k m tr).rows ended text other
    (streams_are_kept verdicts f tr k m ended ok ft fv text h) g
streams_owe_one_text early f tr k m ended ok ft fv text other h g =
    early_once (root (nodes_for f (finer k m tr))) (finer k m tr).header (finer k m tr).rows ended text other
    (streams_are_kept early f tr k m ended ok ft fv text h) g
streams_owe_one_text margins f tr k m ended ok ft fv text other h g =
    margin_stream_once (root (nodes_for f (finer k m tr))) (finer k m tr).header (finer k m tr).rows ended text other
    (streams_are_kept margins f tr k m ended ok ft fv text h) g

-- the early verdict is that in smaller ticks
pub early_is_of_units : EarlyIsOfUnits
early_is_of_units f tr k m ended ok ft fv text = (
  streams_are_kept early f tr k m ended ok ft fv text,
  λ h. early_back (10 ^ k) 0 (10 ^ m) (some_power k) (some_power m) (root (nodes_for f tr)) tr.header (finer k m tr).header.scale
      (λ t x g. time_text_back tr.header.scale.time k (some_power k) t x g) tr.rows ended text
      ok.rows (counted_back f tr k m IsEarlyText ended text (root_finer f tr.header.scale k m ft fv) h),
)

-- and so is the stream of margins
pub margins_are_of_units : MarginsAreOfUnits
margins_are_of_units f tr k m ended ok ft fv text = (
  streams_are_kept margins f tr k m ended ok ft fv text,
  λ h. margin_stream_back (10 ^ k) 0 (10 ^ m) (some_power k) (some_power m) (root (nodes_for f tr)) tr.header (finer k m tr).header.scale
      (λ t x g. time_text_back tr.header.scale.time k (some_power k) t x g) (λ v x g. value_text_back tr.header.scale.value m (some_power m) v x g)
      tr.rows ended text ok.rows (counted_back f tr k m IsMarginStream ended text (root_finer f tr.header.scale k m ft fv) h),
)

-- and so is the stream of verdicts, of a formula and rows within the limits
pub watch_is_of_units : WatchIsOfUnits
watch_is_of_units f tr k m ended formed ok range ft fv text = (
  streams_are_kept verdicts f tr k m ended ok ft fv text,
  λ h. stream_back (10 ^ k) 0 (10 ^ m) (some_power k) (some_power m) (root (nodes_for f tr)) tr.header (finer k m tr).header.scale
      (λ told e t lines. lines_back k (some_power k) tr.header.scale (finer k m tr).header.scale refl told e t lines)
      (λ rows rows_ok rows_range. root_calm (record { header = tr.header; rows = rows }) rows_range _ _ f.nodes formed.nodes.atoms)
      tr.rows ended text ok.rows range (counted_back f tr k m IsStreamText ended text (root_finer f tr.header.scale k m ft fv) h),
)

-- and each stream for a trace that was read for the formula
pub read_streams : (f : Formula) → IsWellFormed f → ReadStreamsAreOfUnits f
read_streams f formed verdicts bytes limits tr k m ended has =
    let (time, value) = read_scale bytes limits f.scale tr has in
    watch_is_of_units f tr k m ended formed has.text.rising (read_rows bytes limits f.scale tr has) time value
read_streams f formed early bytes limits tr k m ended has =
    let (time, value) = read_scale bytes limits f.scale tr has in early_is_of_units f tr k m ended has.text.rising time value
read_streams f formed margins bytes limits tr k m ended has =
    let (time, value) = read_scale bytes limits f.scale tr has in margins_are_of_units f tr k m ended has.text.rising time value
