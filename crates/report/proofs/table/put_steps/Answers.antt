use Rattle.std.proofs.Common.{◌≤◌, length, take, [], append-nil, refl, sym, subst, arith}
use Rattle.rational.proofs.Lists.{on_err_anyway}
use Rattle.value_laws.specs.Kinds.{margin_shape}
use Rattle.pl_signal.specs.Plain.{knots_of}
use Rattle.answer_lines.specs.Appended.{Grew, AreEach}
use Rattle.answer_lines.specs.Steps.{steps_of}
use Rattle.report.specs.TableRows.{IsStepRow}
use Rattle.answer_lines.proofs.Sequences.{each_before, each_between, each_all}
use Rattle.report.proofs.StepLemmas.{steps_fewer}
use Rattle.report.proofs.TableTexts.{step_row_exists}
use Rattle.report.proofs.table.put_steps.Goals as goal

pub loop-from-init : goal.loop-from-init
loop-from-init c = (omega arith, ([], refl, sym (append-nil c.args.text.now)))

pub returns-in_err-put_block-clause-err : goal.returns-in_err-put_block-clause-err
returns-in_err-put_block-clause-err c =
    let P = IsStepRow c.args.scale in
    let steps = steps_of (knots_of margin_shape c.args.s.now) in
    let before = subst (Grew (AreEach P (take c.loop-from.from steps)) c.args.text.now) (sym c.in_err-put_block.ensures.err) c.loop-from.invariant.1 in
    on_err_anyway _ (each_before P (step_row_exists c.args.scale) c.loop-from.from steps c.args.text.now c.put_block.new.text before)

pub loop-from-preserved : goal.loop-from-preserved
loop-from-preserved c =
    let P = IsStepRow c.args.scale in
    let steps = steps_of (knots_of margin_shape c.args.s.now) in
    let order : c.loop-from.from ≤ c.min-to.result = omega arith in (
      omega arith,
      each_between P c.loop-from.from c.min-to.result steps c.args.text.now c.loop-from.text c.put_block.new.text order c.loop-from.invariant.1
          c.in_ok-put_block.ensures.ok,
    )

pub returns-clause-ok : goal.returns-clause-ok
returns-clause-ok c =
    let P = IsStepRow c.args.scale in
    let steps = steps_of (knots_of margin_shape c.args.s.now) in
    let few : length steps ≤ c.loop-from.from =
    let n = steps_fewer margin_shape c.args.s.now (omega arith) in let t = c.loop-from-test.false in omega arith in
    each_all P c.loop-from.from steps c.args.text.now c.loop-from.text few c.loop-from.invariant.1
