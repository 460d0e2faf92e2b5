use Rattle.std.proofs.Common.{◌≡◌, ◌+◌, ◌++◌, [], ◌∷◌, suc, Some, sym, subst, arith}
use Rattle.std.specs.Prelude.{slice_get}
use Rattle.value_laws.specs.Kinds.{margin_shape}
use Rattle.pl_signal.specs.Plain.{knots_of, plain_knot, plain_piece}
use Rattle.answer_lines.specs.Appended.{AreEach}
use Rattle.answer_lines.specs.Steps.{steps_of, step, between}
use Rattle.report.specs.TableRows.{IsStepRow, rows_text}
use Rattle.answer_lines.proofs.MarginTexts.{knot_within}
use Rattle.answer_lines.proofs.Sequences.{between_none, between_more, each_join, each_one}
use Rattle.report.proofs.StepLemmas.{step_at}
use Rattle.report.proofs.table.put_records.Goals as goal

pub put_step-requires-clause-from : goal.put_step-requires-clause-from
put_step-requires-clause-from c =
    knot_within margin_shape _ c.args.s.now c.loop-i.i c.knot_in_place.result.now c.requires.signal c.knot_in_place.ensures c.requires.begins c.requires.ends

pub put_step-requires-clause-to : goal.put_step-requires-clause-to
put_step-requires-clause-to c =
    knot_within margin_shape _ c.args.s.now (c.loop-i.i + 1) c.knot_in_place-in-loop-i.result.now c.requires.signal
    c.knot_in_place-in-loop-i.ensures c.requires.begins c.requires.ends

pub loop-i-init : goal.loop-i-init
loop-i-init c = (
  c.requires.ready,
  subst (λ xs. AreEach (IsStepRow c.args.scale) xs (rows_text c.args.rows.now))
      (sym (between_none c.args.from (steps_of (knots_of margin_shape c.args.s.now)))) c.requires.empty,
)

pub loop-i-preserved : goal.loop-i-preserved
loop-i-preserved c =
    let P = IsStepRow c.args.scale in
    let i = c.loop-i.i in
    let from = c.args.from in
    let there : suc i ≡ i + 1 = omega arith in
    let order = c.loop-i.auto.i in
    let steps = steps_of (knots_of margin_shape c.args.s.now) in
    let k = c.knot_in_place.result.now in
    let x = step (plain_knot margin_shape k) (plain_piece margin_shape k c.knot_in_place-in-loop-i.result.now) in
    let at = step_at margin_shape c.args.s.now i c.knot_in_place.result.now c.knot_in_place-in-loop-i.result.now c.knot_in_place.ensures
    (subst (λ n. slice_get c.args.s.now n ≡ Some c.knot_in_place-in-loop-i.result.now) (sym there) c.knot_in_place-in-loop-i.ensures) in
    let (t, p, e) = c.in_ok-put_step.ensures.text in
    let old = rows_text c.loop-i.rows in
    let more : AreEach P (between from i steps ++ x ∷ []) (old ++ t) =
    each_join P (between from i steps) (x ∷ []) old t c.loop-i.invariant.1 (each_one P x t p) in
    let next : AreEach P (between from (suc i) steps) (old ++ t) = subst (λ xs. AreEach P xs (old ++ t)) (sym (between_more from i steps x order at)) more in (
      c.in_ok-put_step.ensures.ready,
      subst (λ n. AreEach P (between from n steps) (rows_text c.put_step.new.rows)) there
          (subst (AreEach P (between from (suc i) steps)) (sym e) next),
    )

pub returns : goal.returns
returns c =
    let end : c.loop-i.i ≡ c.args.to = let t = c.loop-i-test.false in let m = c.loop-i.auto.i-end c.requires.order in omega arith in
    let steps = steps_of (knots_of margin_shape c.args.s.now) in
    subst (λ n. AreEach (IsStepRow c.args.scale) (between c.args.from n steps) (rows_text c.loop-i.rows)) end c.loop-i.invariant.1
