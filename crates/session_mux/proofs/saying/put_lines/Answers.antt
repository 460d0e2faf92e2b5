use Rattle.std.proofs.Common.{◌++◌, sym, subst}
use Rattle.std.proofs.lemmas.Result.{on_ok_weaker, on_err_weaker}
use Rattle.std.specs.Prelude.{codes}
use Rattle.rational.proofs.Lists.{empty_of_test, on_err_anyway}
use Rattle.answer_lines.specs.Appended.{GrewInPart, Is}
use Rattle.session_mux.specs.Saying.{said_lines, Putting}
use Rattle.session_mux.proofs.LineTexts.{putting_on, putting_cut, putting_all, putting_left}
use Rattle.session_mux.proofs.saying.put_lines.Goals as goal

pub loop-rest-init : goal.loop-rest-init
loop-rest-init c =
    subst (λ t. Putting (t ++ codes " ") c.args.text.now c.args.out.now c.in_ok-rest.rest.now c.put_all_near.new.out c.put_all_near.new.waiting)
    c.loaded.ensures c.in_ok-rest.ensures

pub returns-in_err-rest-clause-err : goal.returns-in_err-rest-clause-err
returns-in_err-rest-clause-err c =
    on_err_anyway _ (subst (λ t. GrewInPart (Is (said_lines t c.args.text.now)) c.args.out.now c.put_all_near.new.out) c.loaded.ensures c.in_err-rest.ensures)

pub returns-in_err-rest-2-clause-err : goal.returns-in_err-rest-2-clause-err
returns-in_err-rest-2-clause-err c =
    let h = c.in_err-rest-2.ensures in
    on_err_anyway _ (putting_cut (c.args.tag.now ++ codes " ") c.args.text.now c.args.out.now _ _ _ c.loop-rest.invariant h.line h.rest h.is _ h.cut h.begins)

pub loop-rest-preserved : goal.loop-rest-preserved
loop-rest-preserved c =
    let h = c.in_ok-rest-2.ensures in
    putting_on (c.args.tag.now ++ codes " ") c.args.text.now c.args.out.now _ _ _ c.loop-rest.invariant h.line _ h.is _ _ h.added h.begins

pub returns-clause-ok : goal.returns-clause-ok
returns-clause-ok c =
    let none = empty_of_test c.loop-rest.rest.now (sym c.loop-rest-test.ensures) in
    on_ok_weaker c.hand_over.result
    (putting_all (c.args.tag.now ++ codes " ") c.args.text.now c.args.out.now _ _ _ c.loop-rest.invariant none c.hand_over.new.out) c.hand_over.ensures.text

pub returns-clause-err : goal.returns-clause-err
returns-clause-err c =
    let none = empty_of_test c.loop-rest.rest.now (sym c.loop-rest-test.ensures) in
    on_err_weaker c.hand_over.result
    (λ same. putting_left (c.args.tag.now ++ codes " ") c.args.text.now c.args.out.now _ _ _ c.loop-rest.invariant none c.hand_over.new.out same.0)
    c.hand_over.ensures.err
