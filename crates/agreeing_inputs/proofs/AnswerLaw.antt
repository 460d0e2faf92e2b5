-- What several commands answer to one input is of one content, and what streams answer joins to it.
use Rattle.std.proofs.Common.{◌≡◌, ◌⊎◌, inl, inr, refl, ap, subst, ◌∙◌, ℕ, Bool, true, List, ◌++◌, arith}
use Rattle.rational.specs.Time.{Within}
use Rattle.rational.proofs.Order.{le_refl}
use Rattle.stl_syntax.specs.Formula.{root}
use Rattle.stl_syntax.specs.Trace.{Trace, start, stop}
use Rattle.stl_syntax.specs.Texts.{start_line}
use Rattle.stl_syntax.proofs.RowsLemmas.{first_to_last}
use Rattle.values_exist.proofs.LawProofs.{truth_is_decided}
use Rattle.trace_reader.specs.TraceText.{IsTraceText}
use Rattle.trace_reader.proofs.TraceRefusalLaw.{Trace-unique}
use Rattle.trace_stream.specs.CaseReader.{IsWhole}
use Rattle.stl_syntax.specs.Scaling.{nodes_for}
use Rattle.report.specs.Report.{Command, check, robust, explain, json, table, Out}
use Rattle.answer_lines.proofs.OneText.{start_once}
use Rattle.stl_syntax.specs.declared.items.Verdict.{Verdict}
use Rattle.agreeing.specs.Contents.{Content, IsVerdictText, IsTextOf, IsContentOf}
use Rattle.agreeing.specs.Joined.{AreJoined}
use Rattle.agreeing.proofs.OneContent.{json_tells_all}
use Rattle.agreeing.proofs.JoinLaw.{covers_join}
use Rattle.workbench.specs.InputFaults.{whole_limits}
use Rattle.trace_stream.specs.Streams.{HoldsAtStart}
use Rattle.workbench.specs.Owed.{at_end as at_end_owed}
use Rattle.workbench.specs.Requests.{Stream, verdicts, early, margins}
use Rattle.workbench.specs.Ended.{TellsTruth, IsAnsweredWhole, IsAnsweredByRow}
use Rattle.promises.specs.SureLines.{IsCoverText}
use Rattle.promises.specs.SureMargins.{IsMarginCover}
use Rattle.promises.proofs.CompleteRuns.{truth_once}
use Rattle.promises.proofs.OwedLaws.{whole_once, explain_owed_once, json_owed_once}
use Rattle.promises.proofs.SureLines.{watch_text}
use Rattle.promises.proofs.SureMargins.{margin_text}
use Rattle.agreeing_inputs.specs.Answers.{AnswersHaveOneContent, WatchJoinsToCheck, RwatchJoinsToRobust, JudgesStart, JudgesStartByRow}
use Rattle.agreeing_inputs.specs.Answers.{IsOneStatus, AnswersHaveOneStatus}
use Rattle.agreeing_inputs.proofs.PartsLaw.{parts_join}

-- one content
pub answers_have_one_content : AnswersHaveOneContent
answers_have_one_content f bytes reported status a = by_content (json_tells_all f a.tr reported a.written)
  where
    by_content : (c : Content) × IsTextOf json f a.tr.header.scale c reported × IsContentOf f a.tr c
        → (tr : Trace) × (c : Content) × IsWhole whole_limits f bytes tr × IsTextOf json f tr.header.scale c reported
        × ((command : Command) (text : List ℕ) (other : ℕ) → IsAnsweredWhole command f bytes other text → IsTextOf command f tr.header.scale c text)
    by_content (c, is, content) = (a.tr, c, a.trace, is, tells)
      where
        out : (command : Command) (text : List ℕ) (other : ℕ) → IsAnsweredWhole command f bytes other text → Out command f a.tr text
        out command text other b = subst (λ (t : Trace). Out command f t text) (whole_once f bytes b.tr a.tr b.trace a.trace) b.written

        tells : (command : Command) (text : List ℕ) (other : ℕ) → IsAnsweredWhole command f bytes other text → IsTextOf command f a.tr.header.scale c text
        tells check text other b = content.checked text (out check text other b)
        tells robust text other b = content.measured text (out robust text other b)
        tells explain text other b =
            let (line, lines) = content.explained in
            let same : line ≡ text = explain_owed_once f bytes true line text
            (at_end_owed a.tr a.trace a.few (content.tells explain line lines)) (at_end_owed b.tr b.trace b.few b.written) in
            subst (λ t. IsTextOf explain f a.tr.header.scale c t) same lines
        tells json text other b =
            let same : reported ≡ text = json_owed_once f bytes true reported text
            (at_end_owed a.tr a.trace a.few a.written) (at_end_owed b.tr b.trace b.few b.written) in
            subst (λ t. IsTextOf json f a.tr.header.scale c t) same is
        tells table text other b = content.tabled text (out table text other b)

-- `watch` and `check`
pub watch_joins_to_check : WatchJoinsToCheck
watch_joins_to_check f bytes watched checked status other a b =
    let w = watch_text f bytes status watched a in
    let same = Trace-unique bytes f.scale w.tr b.tr w.trace.trace.text b.trace.trace.text in
    by_text w.verdicts (subst (λ (t : Trace). IsCoverText (root (nodes_for f t)) t w.verdicts watched) same w.covers) b.written
  where
    by_text : (parts : List Verdict) → IsCoverText (root (nodes_for f b.tr)) b.tr parts watched → Out check f b.tr checked
        → (tr : Trace) × (parts told : List Verdict) × (holds : Bool) × IsWhole whole_limits f bytes tr
        × IsVerdictText tr.header.scale parts holds watched × IsVerdictText tr.header.scale told holds checked × AreJoined parts told
    by_text parts c (vs, body, line, d, lines, (holds, truth, line_is), is) = (
      b.tr,
      parts,
      vs,
      holds,
      b.trace,
      (
        c.body,
        c.lines,
        c.is ∙ ap (λ l. c.body ++ l) (start_once (root (nodes_for f b.tr)) b.tr c.line (start_line holds) c.start_is (holds, truth, refl)),
      ),
      (body, lines, is ∙ ap (λ l. body ++ l) line_is),
      covers_join (root (nodes_for f b.tr)) b.tr parts vs c.cover.tiles c.cover.told d,
    )

-- `rwatch` and `robust`
pub rwatch_joins_to_robust : RwatchJoinsToRobust
rwatch_joins_to_robust f bytes watched measured status other a b =
    let m = margin_text f bytes watched status a in
    let same = Trace-unique bytes f.scale m.tr b.tr m.trace.trace.text b.trace.trace.text in
    let c = subst (λ (t : Trace). IsMarginCover (root (nodes_for f t)) t m.parts watched) same m.covers in
    let (knots, described, lines) = b.written in (
      b.tr,
      m.parts,
      knots,
      b.trace,
      c.lines,
      lines,
      parts_join (root (nodes_for f b.tr)) b.tr (stop b.tr) (start b.tr) m.parts knots c.covers c.told described,
    )

-- one status
pub answers_have_one_status : AnswersHaveOneStatus
answers_have_one_status f bytes tr t = by_truth (truth_is_decided (root (nodes_for f tr)) tr (start tr) at_start)
  where
    at_start : Within (start tr) (stop tr) (start tr)
    at_start = record { above = le_refl (start tr); below = let h = first_to_last tr t.trace.text.rising in record { le = omega arith } }

    moved : (u : Trace) (status : ℕ) → IsTraceText bytes f.scale u → TellsTruth f u status → TellsTruth f tr status
    moved u status text told = subst (λ (x : Trace). TellsTruth f x status) (Trace-unique bytes f.scale u tr text t.trace.text) told

    whole : (status : ℕ) → TellsTruth f tr status → (command : Command) (text : List ℕ) (other : ℕ) → JudgesStart command
        → IsAnsweredWhole command f bytes other text → other ≡ status
    whole status told check text other judges a = truth_once f tr other status (moved a.tr other a.trace.trace.text a.verdict) told
    whole status told robust text other judges a = absurd judges
    whole status told explain text other judges a = truth_once f tr other status (moved a.tr other a.trace.trace.text a.verdict) told
    whole status told json text other judges a = truth_once f tr other status (moved a.tr other a.trace.trace.text a.verdict) told
    whole status told table text other judges a = absurd judges

    by_row : (status : ℕ) → TellsTruth f tr status → (stream : Stream) (text : List ℕ) (other : ℕ) → JudgesStartByRow stream
        → IsAnsweredByRow stream f bytes other text → other ≡ status
    by_row status told verdicts text other judges a = truth_once f tr other status (moved a.tr other a.trace.trace.text a.verdict) told
    by_row status told early text other judges a = truth_once f tr other status (moved a.tr other a.trace.trace.text a.verdict) told
    by_row status told margins text other judges a = absurd judges

    by_truth : HoldsAtStart f tr ⊎ (¬ HoldsAtStart f tr) → (status : ℕ) × TellsTruth f tr status × IsOneStatus f bytes status
    by_truth (inl h) = (0, inl (refl, h), record { whole = whole 0 (inl (refl, h)); by_row = by_row 0 (inl (refl, h)) })
    by_truth (inr h) = (1, inr (refl, h), record { whole = whole 1 (inr (refl, h)); by_row = by_row 1 (inr (refl, h)) })
