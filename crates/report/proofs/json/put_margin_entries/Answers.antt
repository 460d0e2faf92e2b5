use Rattle.std.proofs.Common.{[], sym, ◌∙◌, subst, codes}
use Rattle.std.proofs.lemmas.Result.{on_ok_weaker, on_err_weaker}
use Rattle.rational.proofs.Lists.{on_err_anyway}
use Rattle.value_laws.specs.Kinds.{margin_shape}
use Rattle.pl_signal.specs.Plain.{knots_of}
use Rattle.answer_lines.specs.Appended.{Grew, GrewInPart, AreEach, Is}
use Rattle.report.specs.JsonTexts.{IsKnotEntry, IsStepEntry}
use Rattle.answer_lines.specs.Steps.{steps_of}
use Rattle.answer_lines.proofs.Growths.{grew_is, grew_then, part_none, part_then, part_first}
use Rattle.answer_lines.proofs.MarginTexts.{knot_within}
use Rattle.report.proofs.JsonParts.{first_is, LaterMargins, later_margins_exist}
use Rattle.answer_lines.proofs.Growths.{word_exists}
use Rattle.report.proofs.json.put_margin_entries.Goals as goal
use Rattle.report.proofs.json.put_margin_entries.Goals.{In_ok-put_first}

-- the first knot is the first of the plain knots
first : (c : In_ok-put_first)
    → Grew (IsKnotEntry [] c.args.scale (knots_of margin_shape c.args.s.now).first) c.args.text.now c.put_first.new.text
first c =
    subst (λ k. Grew (IsKnotEntry [] c.args.scale k) c.args.text.now c.put_first.new.text)
    (sym (first_is margin_shape c.args.s.now c.knot.result c.knot.ensures)) c.in_ok-put_first.ensures.ok

pub put_first-requires-clause-within : goal.put_first-requires-clause-within
put_first-requires-clause-within c =
    knot_within margin_shape _ c.args.s.now 0 c.knot.result c.len.ensures.signal c.knot.ensures c.requires.begins c.requires.ends

pub put_step_entries-requires-clause-none : goal.put_step_entries-requires-clause-none
put_step_entries-requires-clause-none c = c.put_first.ensures.same ∙ c.new-entries.ensures

pub returns-in_err-put_first-clause-err : goal.returns-in_err-put_first-clause-err
returns-in_err-put_first-clause-err c =
    let s = c.args.scale in
    let knots = knots_of margin_shape c.args.s.now in
    on_err_anyway _ (part_first (IsKnotEntry [] s knots.first) (LaterMargins s knots) c.args.text.now _
    (subst (λ k. GrewInPart (IsKnotEntry [] s k) c.args.text.now c.put_first.new.text)
    (sym (first_is margin_shape c.args.s.now c.knot.result c.knot.ensures)) c.in_err-put_first.ensures.err) (later_margins_exist s knots))

pub returns-in_err-put_step_entries-clause-err : goal.returns-in_err-put_step_entries-clause-err
returns-in_err-put_step_entries-clause-err c =
    let s = c.args.scale in
    let knots = knots_of margin_shape c.args.s.now in
    on_err_anyway _ (part_then (IsKnotEntry [] s knots.first) (LaterMargins s knots) c.args.text.now _ _
    (first (goal.at.returns-in_err-put_step_entries-clause-err c).In_ok-put_first)
    (part_first (AreEach (IsStepEntry s) (steps_of knots)) (Is (codes "]")) _ _ c.in_err-put_step_entries.ensures.err (word_exists (codes "]"))))

pub returns-clause-ok : goal.returns-clause-ok
returns-clause-ok c =
    let s = c.args.scale in
    let knots = knots_of margin_shape c.args.s.now in
    let begun = first (goal.at.returns-clause-ok c).In_ok-put_first in
    on_ok_weaker c.push.result
    (λ e. grew_then (IsKnotEntry [] s knots.first) (LaterMargins s knots) c.args.text.now _ _ begun
    (grew_then (AreEach (IsStepEntry s) (steps_of knots)) (Is (codes "]")) _ _ _ c.in_ok-put_step_entries.ensures.ok
    (grew_is (codes "]") _ _ e))) c.push.ensures.ok

pub returns-clause-err : goal.returns-clause-err
returns-clause-err c =
    let s = c.args.scale in
    let knots = knots_of margin_shape c.args.s.now in
    let begun = first (goal.at.returns-clause-err c).In_ok-put_first in
    on_err_weaker c.push.result
    (λ e. part_then (IsKnotEntry [] s knots.first) (LaterMargins s knots) c.args.text.now _ _ begun
    (part_then (AreEach (IsStepEntry s) (steps_of knots)) (Is (codes "]")) _ _ _ c.in_ok-put_step_entries.ensures.ok
    (part_none (Is (codes "]")) _ _ (word_exists (codes "]")) e))) c.push.ensures.err
