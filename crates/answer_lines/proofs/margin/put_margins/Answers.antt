use Rattle.std.proofs.Common.{◌≡◌, suc, ◌+◌, ◌-◌, Some, [], ◌++◌, length, append-nil, sym, ap, ◌∙◌, subst, arith}
use Rattle.std.specs.Prelude.{slice_get}
use Rattle.std.proofs.lemmas.Result.{on_ok_weaker, on_err_weaker}
use Rattle.rational.proofs.Lists.{on_err_anyway}
use Rattle.value_laws.specs.Kinds.{margin_shape}
use Rattle.pl_signal.specs.Plain.{knots_of}
use Rattle.stl_syntax.specs.Texts.{AreMarginLines}
use Rattle.answer_lines.specs.Appended.{Grew, GrewInPart}
use Rattle.answer_lines.proofs.Growths.{part_shorter, front_then}
use Rattle.answer_lines.proofs.MarginTexts.{AreMarginsTo, margins_begin, margins_more, margins_all, margins_part, knot_within}
use Rattle.answer_lines.proofs.margin.put_margins.Goals as goal

pub put_point-requires-clause-within : goal.put_point-requires-clause-within
put_point-requires-clause-within c =
    knot_within margin_shape _ c.args.s.now 0 c.knot_in_place-first.result.now c.len-knots.ensures.signal c.knot_in_place-first.ensures
    c.requires.begins c.requires.ends

pub put_next-requires-clause-from : goal.put_next-requires-clause-from
put_next-requires-clause-from c =
    knot_within margin_shape _ c.args.s.now (c.loop-i.i - 1) c.knot_in_place.result.now c.len-knots.ensures.signal c.knot_in_place.ensures
    c.requires.begins c.requires.ends

pub put_next-requires-clause-to : goal.put_next-requires-clause-to
put_next-requires-clause-to c =
    knot_within margin_shape _ c.args.s.now c.loop-i.i c.knot_in_place-in-loop-i.result.now c.len-knots.ensures.signal c.knot_in_place-in-loop-i.ensures
    c.requires.begins c.requires.ends

pub loop-i-init : goal.loop-i-init
loop-i-init c =
    let k = c.knot_in_place-first.result.now in
    let (line, is, e) = c.put_point.ensures in (
      (
        line,
        margins_begin margin_shape c.args.scale c.args.s.now k line c.knot_in_place-first.ensures is,
        ap (λ w. c.args.text.now ++ w) (e ∙ ap (λ w. w ++ line) c.new-lines.ensures),
      ),
      ([], sym (append-nil c.args.text.now)),
    )

pub loop-i-preserved : goal.loop-i-preserved
loop-i-preserved c =
    let next : c.loop-i.i ≡ suc (c.loop-i.i - 1) = omega arith in
    let there : suc (c.loop-i.i - 1) ≡ c.loop-i.i + 1 - 1 = omega arith in
    let (a, e) = c.loop-i.invariant.1 in
    let (b, f) = c.put_next.ensures.begins in
    let new = c.put_next.new.text ++ c.put_next.new.lines in (
      subst (λ n. Grew (AreMarginsTo margin_shape c.args.scale c.args.s.now n) c.args.text.now new) there
          (margins_more margin_shape c.args.scale c.args.s.now (c.loop-i.i - 1) c.knot_in_place.result.now c.knot_in_place-in-loop-i.result.now
          c.args.text.now (c.loop-i.text ++ c.loop-i.lines) new c.knot_in_place.ensures
          (subst (λ n. slice_get c.args.s.now n ≡ Some c.knot_in_place-in-loop-i.result.now) next c.knot_in_place-in-loop-i.ensures)
          c.loop-i.invariant.0 c.in_ok-put_next.ensures.ok),
      (a ++ b, front_then c.args.text.now c.loop-i.text c.put_next.new.text a b e f),
    )

pub returns-in_err-put_next-clause-err : goal.returns-in_err-put_next-clause-err
returns-in_err-put_next-clause-err c =
    let P = AreMarginLines c.args.scale (knots_of margin_shape c.args.s.now) in
    let (a, e) = c.loop-i.invariant.1 in
    let part = margins_part margin_shape c.args.scale c.args.s.now c.knot_in_place-first.result.now (c.loop-i.i - 1) c.knot_in_place.result.now
    c.args.text.now (c.loop-i.text ++ c.loop-i.lines) c.knot_in_place-first.ensures c.knot_in_place.ensures c.loop-i.invariant.0 in
    on_err_anyway _
    (subst (GrewInPart P c.args.text.now) (sym c.in_err-put_next.ensures.err.0)
    (part_shorter P c.args.text.now c.loop-i.text c.loop-i.lines a part e))

pub returns-clause-ok : goal.returns-clause-ok
returns-clause-ok c =
    let P = AreMarginLines c.args.scale (knots_of margin_shape c.args.s.now) in
    let last : suc (c.loop-i.i - 1) ≡ length c.args.s.now = let t = c.loop-i-test.false in let v = c.len-knots.ensures.value in
    let some = c.len-knots.ensures.some in let m = c.loop-i.auto.i-end in omega arith in
    let (text, is, e) = c.loop-i.invariant.0 in
    on_ok_weaker c.hand_over.result (λ f. (
      text,
      margins_all margin_shape c.args.scale c.args.s.now c.knot_in_place-first.result.now (c.loop-i.i - 1) text c.knot_in_place-first.ensures last is,
      f ∙ e,
    )) c.hand_over.ensures.text

pub returns-clause-err : goal.returns-clause-err
returns-clause-err c =
    let P = AreMarginLines c.args.scale (knots_of margin_shape c.args.s.now) in
    let last : suc (c.loop-i.i - 1) ≡ length c.args.s.now = let t = c.loop-i-test.false in let v = c.len-knots.ensures.value in
    let some = c.len-knots.ensures.some in let m = c.loop-i.auto.i-end in omega arith in
    let (a, front) = c.loop-i.invariant.1 in
    let (text, is, e) = c.loop-i.invariant.0 in
    let all = margins_all margin_shape c.args.scale c.args.s.now c.knot_in_place-first.result.now (c.loop-i.i - 1) text c.knot_in_place-first.ensures last is in
    on_err_weaker c.hand_over.result (λ same.
    subst (GrewInPart P c.args.text.now) (sym same.0)
    (part_shorter P c.args.text.now c.loop-i.text c.loop-i.lines a (text, [], subst P (sym (append-nil text)) all, e) front)) c.hand_over.ensures.err
