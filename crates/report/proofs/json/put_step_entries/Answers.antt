use Rattle.std.proofs.Common.{◌≡◌, ◌+◌, ◌≤◌, [], ◌++◌, suc, Some, length, take, append-nil, ap, sym, ◌∙◌, subst, arith}
use Rattle.std.specs.Prelude.{slice_get}
use Rattle.std.proofs.lemmas.Result.{on_ok_weaker, on_err_weaker}
use Rattle.rational.proofs.Lists.{on_err_anyway}
use Rattle.value_laws.specs.Kinds.{margin_shape}
use Rattle.pl_signal.specs.Plain.{knots_of, plain_knot, plain_piece}
use Rattle.answer_lines.specs.Appended.{Grew, GrewInPart, AreEach}
use Rattle.report.specs.JsonTexts.{IsStepEntry}
use Rattle.answer_lines.specs.Steps.{steps_of, step}
use Rattle.answer_lines.proofs.Growths.{part_shorter, front_then}
use Rattle.answer_lines.proofs.MarginTexts.{knot_within}
use Rattle.answer_lines.proofs.Sequences.{each_none, each_more, each_before, each_all}
use Rattle.report.proofs.StepLemmas.{step_at, steps_fewer}
use Rattle.report.proofs.JsonParts.{step_entry_exists}
use Rattle.report.proofs.json.put_step_entries.Goals as goal
use Rattle.report.proofs.json.put_step_entries.Goals.{After-put_step}

-- the step that is written
its_step : (c : After-put_step)
    → slice_get (steps_of (knots_of margin_shape c.args.s.now)) c.loop-i.i ≡ Some
    (step (plain_knot margin_shape c.knot_in_place.result.now) (plain_piece margin_shape c.knot_in_place.result.now c.knot_in_place-in-loop-i.result.now))
its_step c =
    let there : c.loop-i.i + 1 ≡ suc c.loop-i.i = omega arith in
    step_at margin_shape c.args.s.now c.loop-i.i c.knot_in_place.result.now c.knot_in_place-in-loop-i.result.now c.knot_in_place.ensures
    (subst (λ n. slice_get c.args.s.now n ≡ Some c.knot_in_place-in-loop-i.result.now) there c.knot_in_place-in-loop-i.ensures)

pub put_step-requires-clause-from : goal.put_step-requires-clause-from
put_step-requires-clause-from c =
    knot_within margin_shape _ c.args.s.now c.loop-i.i c.knot_in_place.result.now c.len-last.ensures.signal c.knot_in_place.ensures
    c.requires.begins c.requires.ends

pub put_step-requires-clause-to : goal.put_step-requires-clause-to
put_step-requires-clause-to c =
    knot_within margin_shape _ c.args.s.now (c.loop-i.i + 1) c.knot_in_place-in-loop-i.result.now c.len-last.ensures.signal
    c.knot_in_place-in-loop-i.ensures c.requires.begins c.requires.ends

pub loop-i-init : goal.loop-i-init
loop-i-init c =
    let P = IsStepEntry c.args.scale in
    let steps = steps_of (knots_of margin_shape c.args.s.now) in (
      subst (λ w. Grew (AreEach P (take 0 steps)) c.args.text.now w) (sym (ap (λ w. c.args.text.now ++ w) c.requires.none ∙ append-nil c.args.text.now))
          (each_none P steps c.args.text.now),
      ([], sym (append-nil c.args.text.now)),
    )

pub loop-i-preserved : goal.loop-i-preserved
loop-i-preserved c =
    let P = IsStepEntry c.args.scale in
    let steps = steps_of (knots_of margin_shape c.args.s.now) in
    let there : suc c.loop-i.i ≡ c.loop-i.i + 1 = omega arith in
    let k = c.knot_in_place.result.now in
    let x = step (plain_knot margin_shape k) (plain_piece margin_shape k c.knot_in_place-in-loop-i.result.now) in
    let at = its_step (goal.at.loop-i-preserved c).After-put_step in
    let mid = c.loop-i.text ++ c.loop-i.waiting in
    let new = c.put_step.new.text ++ c.put_step.new.self in
    let (a, e) = c.loop-i.invariant.1 in
    let (b, f) = c.put_step.ensures.begins in (
      subst (λ n. Grew (AreEach P (take n steps)) c.args.text.now new) there
          (each_more P c.loop-i.i steps x c.args.text.now mid new at c.loop-i.invariant.0 c.in_ok-put_step.ensures.ok),
      (a ++ b, front_then c.args.text.now c.loop-i.text c.put_step.new.text a b e f),
    )

pub returns-in_err-put_step-clause-err : goal.returns-in_err-put_step-clause-err
returns-in_err-put_step-clause-err c =
    let P = IsStepEntry c.args.scale in
    let steps = steps_of (knots_of margin_shape c.args.s.now) in
    let new = c.put_step.new.text ++ c.put_step.new.self in
    let (a, e) = c.loop-i.invariant.1 in
    let (b, f) = c.put_step.ensures.begins in
    let all : GrewInPart (AreEach P steps) c.args.text.now new =
    each_before P (step_entry_exists c.args.scale) c.loop-i.i steps c.args.text.now new
    (subst (Grew (AreEach P (take c.loop-i.i steps)) c.args.text.now) (sym c.in_err-put_step.ensures.err) c.loop-i.invariant.0) in
    on_err_anyway _
    (part_shorter (AreEach P steps) c.args.text.now c.put_step.new.text c.put_step.new.self (a ++ b) all
    (front_then c.args.text.now c.loop-i.text c.put_step.new.text a b e f))

pub returns-clause-ok : goal.returns-clause-ok
returns-clause-ok c =
    let P = IsStepEntry c.args.scale in
    let steps = steps_of (knots_of margin_shape c.args.s.now) in
    let few : length steps ≤ c.loop-i.i =
    let n = steps_fewer margin_shape c.args.s.now (omega arith) in let t = c.loop-i-test.false in omega arith in
    on_ok_weaker c.hand_over.result
    (λ e. each_all P c.loop-i.i steps c.args.text.now c.hand_over.new.text few
    (subst (Grew (AreEach P (take c.loop-i.i steps)) c.args.text.now) (sym e) c.loop-i.invariant.0)) c.hand_over.ensures.ok

pub returns-clause-err : goal.returns-clause-err
returns-clause-err c =
    let P = IsStepEntry c.args.scale in
    let steps = steps_of (knots_of margin_shape c.args.s.now) in
    let (a, e) = c.loop-i.invariant.1 in
    let mid = c.loop-i.text ++ c.loop-i.waiting in
    on_err_weaker c.hand_over.result
    (λ same. subst (GrewInPart (AreEach P steps) c.args.text.now) (sym same)
    (part_shorter (AreEach P steps) c.args.text.now c.loop-i.text c.loop-i.waiting a
    (each_before P (step_entry_exists c.args.scale) c.loop-i.i steps c.args.text.now mid c.loop-i.invariant.0) e)) c.hand_over.ensures.err
