use Rattle.std.proofs.Common.{◌++◌}
use Rattle.std.proofs.lemmas.Result.{err_from_is_err_and}
use Rattle.std.specs.Prelude.{codes}
use Rattle.session_mux.proofs.LineTexts.{putting_begins, putting_on, putting_cut}
use Rattle.session_mux.proofs.saying.put_all_near.Goals as goal

pub loop-at-init : goal.loop-at-init
loop-at-init c = putting_begins (c.args.tag.now ++ codes " ") c.args.text.now c.args.out.now _ c.requires

pub put_near-requires : goal.put_near-requires
put_near-requires c = record { long = c.in-Some.ensures.0; feed = c.in-Some.ensures.1 }

pub returns-in_err-rest : goal.returns-in_err-rest
returns-in_err-rest c =
    let p = err_from_is_err_and c.from_residual.result c.from_residual.ensures.1 in
    let h = c.in_err-rest.ensures in
    rw p.1 (putting_cut (c.args.tag.now ++ codes " ") c.args.text.now c.args.out.now _ _ _ c.loop-at.invariant h.line h.rest h.is _ h.cut h.begins)

pub loop-at-preserved : goal.loop-at-preserved
loop-at-preserved c =
    let h = c.in_ok-rest.ensures in
    putting_on (c.args.tag.now ++ codes " ") c.args.text.now c.args.out.now _ _ _ c.loop-at.invariant h.line _ h.is _ _ h.added h.begins
