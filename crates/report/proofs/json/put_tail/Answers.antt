use Rattle.std.proofs.Common.{true, refl, ap, subst, ◌∙◌, codes}
use Rattle.std.proofs.lemmas.Result.{on_ok_weaker, on_err_weaker}
use Rattle.rational.proofs.Lists.{on_err_anyway}
use Rattle.serde_json.specs.Written.{compact_text, has_float}
use Rattle.value_laws.specs.Kinds.{truth_shape, margin_shape}
use Rattle.pl_signal.specs.Plain.{knots_of}
use Rattle.answer_lines.specs.Appended.{Grew, GrewInPart, Is}
use Rattle.report.specs.JsonTexts.{AreMarginEntries, IsOpened, margins_data, start_data}
use Rattle.report.specs.ReportText.{TailParts}
use Rattle.report.specs.VerdictForms.{AreEntries}
use Rattle.answer_lines.proofs.Growths.{grew_is, grew_then, part_none, part_then, part_first}
use Rattle.report.proofs.JsonData.{margins_end, start_front, start_ends}
use Rattle.answer_lines.proofs.Growths.{word_exists}
use Rattle.report.proofs.ReportTexts.{Verdicts, FromStart, Margins, verdicts_exist, start_exists, margins_exist, tail_exists, signal_entries_exist}
use Rattle.report.proofs.json.put_tail.Goals as goal
use Rattle.report.proofs.json.put_tail.Goals.{In_ok-put_opened, In_ok-put_opened-2}

-- the object of the margins was opened
margins_opened : (c : In_ok-put_opened) → Grew (IsOpened (codes ",") margins_data) c.args.text.now c.put_opened.new.text
margins_opened c = subst (λ d. Grew (IsOpened (codes ",") d) c.args.text.now c.put_opened.new.text) c.in_ok-margins_object.ensures c.in_ok-put_opened.ensures.ok

-- and that of the verdicts
start_opened : (c : In_ok-put_opened-2) → Grew (IsOpened (codes ",") (start_data c.args.holds)) c.put_margin_entries.new.text c.put_opened-2.new.text
start_opened c =
    subst (λ d. Grew (IsOpened (codes ",") d) c.put_margin_entries.new.text c.put_opened-2.new.text) c.in_ok-start_object.ensures
    c.in_ok-put_opened-2.ensures.ok

pub put_opened-requires-clause-float : goal.put_opened-requires-clause-float
put_opened-requires-clause-float c = ap has_float c.in_ok-margins_object.ensures

pub put_opened-requires-clause-list : goal.put_opened-requires-clause-list
put_opened-requires-clause-list c = (codes "\"margins\":[", ap compact_text c.in_ok-margins_object.ensures ∙ margins_end)

pub put_opened-requires-2-clause-float : goal.put_opened-requires-2-clause-float
put_opened-requires-2-clause-float c = ap has_float c.in_ok-start_object.ensures

pub put_opened-requires-2-clause-list : goal.put_opened-requires-2-clause-list
put_opened-requires-2-clause-list c = (start_front c.args.holds, ap compact_text c.in_ok-start_object.ensures ∙ start_ends c.args.holds)

pub returns-in_err-margins_object-clause-err : goal.returns-in_err-margins_object-clause-err
returns-in_err-margins_object-clause-err c =
    let s = c.args.scale in
    let t = c.args.truth.now in
    let m = c.args.margins.now in
    on_err_anyway _ (part_none (TailParts s t m c.args.holds) c.args.text.now c.args.text.now
    (tail_exists s t m c.args.holds (signal_entries_exist true s t c.requires.signal)) refl)

pub returns-in_err-put_opened-clause-err : goal.returns-in_err-put_opened-clause-err
returns-in_err-put_opened-clause-err c =
    let s = c.args.scale in
    let t = c.args.truth.now in
    let m = c.args.margins.now in
    on_err_anyway _ (part_first (IsOpened (codes ",") margins_data) (Margins s t m c.args.holds) c.args.text.now _
    (subst (λ d. GrewInPart (IsOpened (codes ",") d) c.args.text.now c.put_opened.new.text) c.in_ok-margins_object.ensures c.in_err-put_opened.ensures.err)
    (margins_exist s t m c.args.holds (signal_entries_exist true s t c.requires.signal)))

pub returns-in_err-put_margin_entries-clause-err : goal.returns-in_err-put_margin_entries-clause-err
returns-in_err-put_margin_entries-clause-err c =
    let s = c.args.scale in
    let t = c.args.truth.now in
    let m = c.args.margins.now in
    let h = c.args.holds in
    on_err_anyway _
    (part_then (IsOpened (codes ",") margins_data) (Margins s t m h) c.args.text.now _ _
    (margins_opened (goal.at.returns-in_err-put_margin_entries-clause-err c).In_ok-put_opened)
    (part_first (AreMarginEntries s (knots_of margin_shape m)) (FromStart s t m h) _ _ c.in_err-put_margin_entries.ensures.err
    (start_exists s t m h (signal_entries_exist true s t c.requires.signal))))

pub returns-in_err-start_object-clause-err : goal.returns-in_err-start_object-clause-err
returns-in_err-start_object-clause-err c =
    let s = c.args.scale in
    let t = c.args.truth.now in
    let m = c.args.margins.now in
    let h = c.args.holds in
    on_err_anyway _
    (part_then (IsOpened (codes ",") margins_data) (Margins s t m h) c.args.text.now _ _
    (margins_opened (goal.at.returns-in_err-start_object-clause-err c).In_ok-put_opened)
    (part_then (AreMarginEntries s (knots_of margin_shape m)) (FromStart s t m h) _ _ _ c.in_ok-put_margin_entries.ensures.ok
    (part_none (FromStart s t m h) _ _ (start_exists s t m h (signal_entries_exist true s t c.requires.signal)) refl)))

pub returns-in_err-put_opened-2-clause-err : goal.returns-in_err-put_opened-2-clause-err
returns-in_err-put_opened-2-clause-err c =
    let s = c.args.scale in
    let t = c.args.truth.now in
    let m = c.args.margins.now in
    let h = c.args.holds in
    on_err_anyway _
    (part_then (IsOpened (codes ",") margins_data) (Margins s t m h) c.args.text.now _ _
    (margins_opened (goal.at.returns-in_err-put_opened-2-clause-err c).In_ok-put_opened)
    (part_then (AreMarginEntries s (knots_of margin_shape m)) (FromStart s t m h) _ _ _ c.in_ok-put_margin_entries.ensures.ok
    (part_first (IsOpened (codes ",") (start_data h)) (Verdicts s t m h) _ _
    (subst (λ d. GrewInPart (IsOpened (codes ",") d) c.put_margin_entries.new.text c.put_opened-2.new.text) c.in_ok-start_object.ensures
    c.in_err-put_opened-2.ensures.err)
    (verdicts_exist s t m h (signal_entries_exist true s t c.requires.signal)))))

pub returns-in_err-put_spans-clause-err : goal.returns-in_err-put_spans-clause-err
returns-in_err-put_spans-clause-err c =
    let s = c.args.scale in
    let t = c.args.truth.now in
    let m = c.args.margins.now in
    let h = c.args.holds in
    on_err_anyway _
    (part_then (IsOpened (codes ",") margins_data) (Margins s t m h) c.args.text.now _ _
    (margins_opened (goal.at.returns-in_err-put_spans-clause-err c).In_ok-put_opened)
    (part_then (AreMarginEntries s (knots_of margin_shape m)) (FromStart s t m h) _ _ _ c.in_ok-put_margin_entries.ensures.ok
    (part_then (IsOpened (codes ",") (start_data h)) (Verdicts s t m h) _ _ _
    (start_opened (goal.at.returns-in_err-put_spans-clause-err c).In_ok-put_opened-2)
    (part_first (AreEntries truth_shape true s t) (Is (codes "}\n")) _ _ c.in_err-put_spans.ensures.err (word_exists (codes "}\n"))))))

pub returns-clause-ok : goal.returns-clause-ok
returns-clause-ok c =
    let s = c.args.scale in
    let t = c.args.truth.now in
    let m = c.args.margins.now in
    let h = c.args.holds in
    let opened = margins_opened (goal.at.returns-clause-ok c).In_ok-put_opened in
    let started = start_opened (goal.at.returns-clause-ok c).In_ok-put_opened-2 in
    on_ok_weaker c.push.result
    (λ e. grew_then (IsOpened (codes ",") margins_data) (Margins s t m h) c.args.text.now _ _ opened
    (grew_then (AreMarginEntries s (knots_of margin_shape m)) (FromStart s t m h) _ _ _ c.in_ok-put_margin_entries.ensures.ok
    (grew_then (IsOpened (codes ",") (start_data h)) (Verdicts s t m h) _ _ _ started
    (grew_then (AreEntries truth_shape true s t) (Is (codes "}\n")) _ _ _ c.in_ok-put_spans.ensures.ok (grew_is (codes "}\n") _ _ e))))) c.push.ensures.ok

pub returns-clause-err : goal.returns-clause-err
returns-clause-err c =
    let s = c.args.scale in
    let t = c.args.truth.now in
    let m = c.args.margins.now in
    let h = c.args.holds in
    let opened = margins_opened (goal.at.returns-clause-err c).In_ok-put_opened in
    let started = start_opened (goal.at.returns-clause-err c).In_ok-put_opened-2 in
    on_err_weaker c.push.result
    (λ e. part_then (IsOpened (codes ",") margins_data) (Margins s t m h) c.args.text.now _ _ opened
    (part_then (AreMarginEntries s (knots_of margin_shape m)) (FromStart s t m h) _ _ _ c.in_ok-put_margin_entries.ensures.ok
    (part_then (IsOpened (codes ",") (start_data h)) (Verdicts s t m h) _ _ _ started
    (part_then (AreEntries truth_shape true s t) (Is (codes "}\n")) _ _ _ c.in_ok-put_spans.ensures.ok
    (part_none (Is (codes "}\n")) _ _ (word_exists (codes "}\n")) e))))) c.push.ensures.err
